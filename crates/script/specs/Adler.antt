-- Adler-32 (RFC 1950): two sums modulo 65,521, of the bytes and of the first sums.
use Rattle.std.specs.Prelude.{ℕ, ◌+◌, ◌*◌, ◌%◌, List, [], ◌∷◌}

-- from these two sums on
unfoldable pub adler_from : ℕ → ℕ → List ℕ → ℕ
adler_from a b [] = b * 65536 + a
adler_from a b (x ∷ s) = adler_from ((a + x) % 65521) ((b + (a + x) % 65521) % 65521) s
