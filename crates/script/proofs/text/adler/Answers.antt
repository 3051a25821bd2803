use Rattle.std.proofs.Common.{rules, arith, ◌∙◌, sym, ◌≡◌, ℕ, ◌+◌, ◌*◌, ◌%◌, ◌<◌, ◌≤◌, List, length, drop, get_or, add-one, drop-cons, drop_of_length-le}
use Rattle.script.specs.Adler.{adler_from}
use Rattle.script.proofs.text.adler.Goals as goal

module _ (s : List ℕ) (a b i : ℕ) where
  -- one byte more, and the end
  one_more : i < length s
      → adler_from a b (drop i s) ≡ adler_from ((a + get_or s i 0) % 65521) ((b + (a + get_or s i 0) % 65521) % 65521) (drop (i + 1) s)
  unfolding adler_from
  one_more h = rw (add-one, drop-cons s i 0)

  at-end : length s ≤ i → adler_from a b (drop i s) ≡ b * 65536 + a
  unfolding adler_from
  at-end h = rw (drop_of_length-le s h)

pub loop-x-preserved : goal.loop-x-preserved
loop-x-preserved c =
    let e = one_more _ _ _ _ c.loop-x-test.true in
    (search rules, search rules, rw c.from.ensures (c.loop-x.invariant.2 ∙ e))

pub returns : goal.returns
returns c = sym (c.loop-x.invariant.2 ∙ at-end c.args.s.now c.loop-x.a c.loop-x.b c.loop-x.x-index (omega arith))
