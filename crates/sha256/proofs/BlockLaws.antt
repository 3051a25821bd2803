-- One turn of the loop over whole blocks.
use Rattle.std.proofs.Common.{◌≡◌, ℕ, suc, ◌/◌, ◌<◌, List, ◌++◌, length, sym, ap, ◌∙◌, arith, length-append, take_at, drop_at}
use Rattle.model.specs.Sha256.{State, compress, blocks}
use Rattle.model.proofs.Sha256Laws.{blocks-suc}

-- x is the next block, and y what is still to come
pub blocks-next : (s r : State) (m x y : List ℕ) → m ≡ x ++ y → length x ≡ 64 → r ≡ compress s x
    → blocks (length m / 64) s m ≡ blocks (length y / 64) r y
blocks-next s r m x y p h e =
    let n : length (x ++ y) / 64 ≡ suc (length y / 64) = rw (length-append, h) (omega arith) in
    rw p (blocks-suc s (x ++ y) n (take_at x y 64 h) (drop_at x y 64 h)) ∙ ap (λ (z : State). blocks (length y / 64) z y) (sym e)

-- no whole block is left
pub blocks_done : (s : State) (m : List ℕ) → length m < 64 → blocks (length m / 64) s m ≡ s
unfolding blocks
blocks_done s m h = let e : length m / 64 ≡ 0 = omega arith in rw e
