-- What is left of a message in one part or two.
use Rattle.std.proofs.Common.{◌≡◌, ℕ, ◌+◌, ◌-◌, ◌*◌, ◌/◌, ◌%◌, ◌<◌, ◌≤◌, List, ◌++◌, length, take, drop, sym, ap, ◌∙◌, ap₂, arith, length-append, length-drop, take_all}
use lib.Seq.{drop-append-add}
use Rattle.model.specs.Sha256.{State, H0, compress, blocks, finish, digest, sha256}
use Rattle.model.proofs.Sha256Laws.{finish_block, finish-part}
use Rattle.tlv.specs.Firsts.{firsts}
use Rattle.tlv.proofs.FirstLaws.{firsts-take}

-- `&m[k..]`
pub rest_of : (m : List ℕ) (k : ℕ) → take (length m - k) (drop k m) ≡ drop k m
rest_of m k = take_all (length m - k) (drop k m) (rw length-drop (omega arith))

-- the whole blocks of the first part are done
pub part-is : (n : ℕ) (s h r : State) (m b : List ℕ) → h ≡ blocks (length m / 64) s m
    → r ≡ finish n h (take (length m - (length m - length m % 64)) (drop (length m - length m % 64) m) ++ b) → r ≡ finish n s (m ++ b)
part-is n s h r m b p q =
    let e : length m - length m % 64 ≡ 64 * (length m / 64) = omega arith in
    q ∙ ap₂ (λ (x : State) (y : List ℕ). finish n x (y ++ b)) p (rest_of m (length m - length m % 64) ∙ ap (λ (k : ℕ). drop k m) e)
    ∙ sym (finish-part (length m / 64) n s m b (omega arith))

-- the block across the seam is done
pub across_is : (n : ℕ) (s h r : State) (x b d : List ℕ) → length x < 64 → 64 - length x ≤ length b → d ≡ firsts 0 64 (x ++ b) → h ≡ compress s d
    → r ≡ finish n h (take (length b - (64 - length x)) (drop (64 - length x) b)) → r ≡ finish n s (x ++ b)
across_is n s h r x b d l k e p q =
    let w : 64 ≤ length (x ++ b) = rw length-append (omega arith) in
    let i : 64 ≡ length x + (64 - length x) = omega arith in
    let u : drop (64 - length x) b ≡ drop 64 (x ++ b) = sym (ap (λ (j : ℕ). drop j (x ++ b)) i ∙ drop-append-add x b (64 - length x)) in
    q ∙ ap₂ (λ (y : State) (z : List ℕ). finish n y z) (p ∙ ap (compress s) (e ∙ firsts-take 0 64 (x ++ b) w)) (rest_of b (64 - length x) ∙ u)
    ∙ sym (finish_block n s (x ++ b) w)

-- from the front
pub hash_is : (s h r : State) (a b out : List ℕ) → s ≡ H0 → h ≡ blocks (length a / 64) s a
    → r ≡ finish (length a + length b) h (take (length a - (length a - length a % 64)) (drop (length a - length a % 64) a) ++ b) → out ≡ digest r → out ≡ sha256 (a ++ b)
unfolding sha256
hash_is s h r a b out i p q o =
    o ∙ ap digest (part-is (length a + length b) s h r a b p q ∙ ap₂ (λ (n : ℕ) (x : State). finish n x (a ++ b)) (sym (length-append a b)) i)
