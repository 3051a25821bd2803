-- A million bytes have that length: by the law, since the checker would write them all out.
use Rattle.std.proofs.Common.{◌≡◌, ℕ, length, sym}
use Rattle.std.proofs.Math.ListN.{replicate, length-replicate}
use Rattle.vectors.proofs.show_million.Goals as goal

so-many : (n : ℕ) → n ≡ length {A = ℕ} (replicate n 97)
so-many n = sym (length-replicate n 97)

pub slice_bounds-show-end : goal.slice_bounds-show-end
slice_bounds-show-end g c = so-many 1000000
