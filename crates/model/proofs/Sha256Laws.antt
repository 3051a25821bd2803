-- FIPS 180-4: a padded message is whole blocks, blocks may be taken one after another or several at once, and a digest is 32 bytes.
-- Assumes nothing.
use mathlib.Core.Path.{◌≡◌, refl, ap, ap₂, ◌∙◌}
use mathlib.Core.List.{List, ◌++◌}
use Prim.Native.Nat.{ℕ, zero, suc, ◌+◌, ◌*◌, ◌/◌, ◌%◌, ◌≤◌}
use native.Mathlib.Omega.{arith}
use lib.ListN.{length, take, drop, length-append, length-drop, length-replicate}
use lib.Seq.{take-append-le, drop-append-le, drop-drop, take_all, take_at, drop_at}
use Rattle.model.specs.Sha256.{State, be, zero_bytes, padding, compress, blocks, finish, digest, sha256}
use Rattle.model.specs.Tlv.{Bytes}
use Rattle.model.proofs.Tlvs.{bytes_join}

-- ---- sizes

length-padding : (n : ℕ) → length (padding n) ≡ 9 + zero_bytes n
unfolding padding be
length-padding n = simp (length-append, length-replicate) (omega arith)

-- 5.1.1: "The length of the padded message should now be a multiple of 512 bits"
pub whole-blocks : (m : List ℕ) → length (m ++ padding (length m)) % 64 ≡ 0
whole-blocks m = rw (length-append, length-padding) (omega arith)

-- "256-bit message digest"
pub sha256-length : (m : List ℕ) → length (sha256 m) ≡ 32
unfolding sha256 digest be
sha256-length m = refl

be-bytes : (n x : ℕ) → Bytes (be n x)
unfolding be
be-bytes zero x = tt
be-bytes (suc n) x = (omega arith, be-bytes n x)

digest-bytes : (s : State) → Bytes (digest s)
unfolding digest
digest-bytes s =
    bytes_join (be 4 s.a) _ (be-bytes 4 s.a) (bytes_join (be 4 s.b) _ (be-bytes 4 s.b)
    (bytes_join (be 4 s.c) _ (be-bytes 4 s.c) (bytes_join (be 4 s.d) _ (be-bytes 4 s.d)
    (bytes_join (be 4 s.e) _ (be-bytes 4 s.e) (bytes_join (be 4 s.f) _ (be-bytes 4 s.f)
    (bytes_join (be 4 s.g) _ (be-bytes 4 s.g) (be-bytes 4 s.h)))))))

pub sha256-bytes : (m : List ℕ) → Bytes (sha256 m)
unfolding sha256
sha256-bytes m = digest-bytes _

-- ---- blocks one after another

one_less : (m p : List ℕ) → 64 ≤ length m → length (m ++ p) / 64 ≡ suc (length (drop 64 m ++ p) / 64)
one_less m p h = simp (length-append, length-drop) (omega arith)

-- one block more
pub blocks-suc : (s : State) (m : List ℕ) {j k : ℕ} {x r : List ℕ} → j ≡ suc k → take 64 m ≡ x → drop 64 m ≡ r → blocks j s m ≡ blocks k (compress s x) r
unfolding blocks
blocks-suc s m {k = k} e t d = ap (λ (i : ℕ). blocks i s m) e ∙ ap₂ (λ (x r : List ℕ). blocks k (compress s x) r) t d

-- a whole block of what is left is compressed
pub finish_block : (n : ℕ) (s : State) (m : List ℕ) → 64 ≤ length m → finish n s m ≡ finish n (compress s (take 64 m)) (drop 64 m)
unfolding finish
finish_block n s m h =
    blocks-suc s (m ++ padding n) (one_less m (padding n) h) (take-append-le 64 m (padding n) h) (drop-append-le 64 m (padding n) h)

-- and so are several
finish-blocks : (k n : ℕ) (s : State) (m : List ℕ) → 64 * k ≤ length m → finish n s m ≡ finish n (blocks k s m) (drop (64 * k) m)
unfolding blocks
finish-blocks zero n s m h = refl
finish-blocks (suc k) n s m h =
    let l : 64 ≤ length m = omega arith in
    let r : 64 * k ≤ length (drop 64 m) = simp length-drop (omega arith) in
    let e : 64 * suc k ≡ 64 + 64 * k = omega arith in
    finish_block n s m l ∙ finish-blocks k n (compress s (take 64 m)) (drop 64 m) r ∙ rw (drop-drop, e)

-- whole blocks do not depend on what follows
blocks-append : (k : ℕ) (s : State) (m t : List ℕ) → 64 * k ≤ length m → blocks k s (m ++ t) ≡ blocks k s m
unfolding blocks
blocks-append zero s m t h = refl
blocks-append (suc k) s m t h =
    let l : 64 ≤ length m = omega arith in
    let r : 64 * k ≤ length (drop 64 m) = simp length-drop (omega arith) in
    blocks-suc s (m ++ t) {k = k} refl (take-append-le 64 m t l) (drop-append-le 64 m t l)
    ∙ blocks-append k (compress s (take 64 m)) (drop 64 m) t r

-- the whole blocks of a first part
pub finish-part : (k n : ℕ) (s : State) (m t : List ℕ) → 64 * k ≤ length m → finish n s (m ++ t) ≡ finish n (blocks k s m) (drop (64 * k) m ++ t)
finish-part k n s m t h =
    let l : 64 * k ≤ length (m ++ t) = rw length-append (omega arith) in
    finish-blocks k n s (m ++ t) l ∙ ap₂ (λ (x : State) (y : List ℕ). finish n x y) (blocks-append k s m t h) (drop-append-le (64 * k) m t h)

-- one last block, and two
pub one_block : (n : ℕ) (s : State) (m e : List ℕ) → m ++ padding n ≡ e → length e ≡ 64 → finish n s m ≡ compress s e
unfolding finish blocks
one_block n s m e p l =
    ap (λ (x : List ℕ). blocks (length x / 64) s x) p ∙ ap (λ (k : ℕ). blocks (k / 64) s e) l
    ∙ ap (compress s) (take_all 64 e (omega arith))

pub two_blocks : (n : ℕ) (s : State) (m e f : List ℕ) → m ++ padding n ≡ e ++ f → length e ≡ 64 → length f ≡ 64
    → finish n s m ≡ compress (compress s e) f
unfolding finish blocks
two_blocks n s m e f p l k =
    let t : length (e ++ f) ≡ 128 = rw length-append (omega arith) in
    ap (λ (x : List ℕ). blocks (length x / 64) s x) p ∙ ap (λ (k : ℕ). blocks (k / 64) s (e ++ f)) t
    ∙ blocks-suc s (e ++ f) {k = 1} refl (take_at e f 64 l) (drop_at e f 64 l)
    ∙ ap (compress (compress s e)) (take_all 64 f (omega arith))
