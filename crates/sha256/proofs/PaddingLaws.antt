-- The last block or two: what the buffer holds is what is left with the padding.
use Rattle.std.proofs.Common.{◌≡◌, ℕ, ◌+◌, ◌-◌, ◌*◌, ◌%◌, ◌^◌, ◌<◌, ◌≤◌, List, [], ◌∷◌, ◌++◌, length, set, replicate, sym, refl, ap, ◌∙◌, ap₂, append_assoc, mul_comm, arith, length-append, length-set}
use borrow.Rule.Slice.PartMut.{mid_of, put_mid, same_len_mid}
use Rattle.std.specs.Int.{w64, to_be_bytes}
use Rattle.model.specs.Sha256.{State, be, zero_bytes, padding, compress, finish}
use Rattle.model.proofs.Sha256Laws.{one_block, two_blocks}
use Rattle.tlv.specs.Firsts.{firsts}
use Rattle.tlv.proofs.FirstLaws.{length-firsts}
use Rattle.sha256.proofs.BufferLaws.{filled, filled_more, set_filled, put_behind, eight_bytes}

-- with the bit 1, and seven zeros
abbrev marked : List ℕ → List ℕ
marked m = m ++ (128 ∷ [])

-- the length of the message, as the code has it
bits : ℕ → List ℕ
bits n = be 8 (n * 8 % 2 ^ 64)

-- zeros up to k bytes, and the length
behind : (k n : ℕ) (m : List ℕ) → zero_bytes n ≡ k - length (marked m) → m ++ padding n ≡ (marked m ++ replicate (k - length (marked m)) 0) ++ bits n
unfolding padding bits
behind k n m e = rw (e, mul_comm 8 n) (simp append_assoc)

padded : (k n : ℕ) (m : List ℕ) → length (marked m) ≤ k → zero_bytes n ≡ k - length (marked m) → m ++ padding n ≡ firsts 0 k (marked m) ++ bits n
padded k n m l e = behind k n m e ∙ ap (λ (x : List ℕ). x ++ bits n) (filled k (marked m) l)

length-be : (n : ℕ) → length (be 8 n) ≡ 8
unfolding be
length-be n = refl

length_bits : (n : ℕ) → length (bits n) ≡ 8
unfolding bits
length_bits n = length-be (n * 8 % 2 ^ 64)

length_marked : (m : List ℕ) → length (marked m) ≡ length m + 1
length_marked m = length-append m (128 ∷ [])

short-length : (n : ℕ) (m : List ℕ) → length (firsts 0 56 (marked m) ++ bits n) ≡ 64
short-length n m = rw (length-append, length-firsts 0 56 (marked m), length_bits n)

-- the length is put over the last eight bytes, and the buffer is as long as before
pub same-length : (m d b : List ℕ) (t : ℕ) → d ≡ firsts 0 64 m → length b ≡ length (mid_of 56 8 (set d t 128)) → length (put_mid 56 8 (set d t 128) b) ≡ 64
same-length m d b t e l = same_len_mid 56 8 (set d t 128) b l ∙ length-set _ _ _ ∙ ap length e ∙ length-firsts 0 64 m

module _ (n t : ℕ) (s r : State) (m d b : List ℕ) (at : length m ≡ t) (left : n % 64 ≡ t) (e : d ≡ firsts 0 64 m) (f : b ≡ to_be_bytes w64 (n * 8 % 2 ^ 64)) where
  -- there is room for the length
  pub last-short : (z : List ℕ) → t < 56 → z ≡ put_mid 56 8 (set d t 128) b → r ≡ compress s z → r ≡ finish n s m
  unfolding bits be
  last-short z h g c =
      let l : length (marked m) ≤ 56 = rw length_marked (omega arith) in
      let p : firsts 0 64 (marked m) ≡ firsts 0 56 (marked m) ++ replicate 8 0 = filled_more 56 8 (marked m) l in
      let w : set d t 128 ≡ firsts 0 56 (marked m) ++ replicate 8 0 = ap (λ (x : List ℕ). set x t 128) e ∙ set_filled 64 m t 128 at (omega arith) ∙ p in
      let v : b ≡ bits n = f ∙ eight_bytes _ in
      let q : z ≡ firsts 0 56 (marked m) ++ bits n =
      g ∙ ap₂ (λ (x y : List ℕ). put_mid 56 8 y x) v w
      ∙ put_behind (firsts 0 56 (marked m)) (replicate 8 0) (bits n) 56 8 (length-firsts 0 56 (marked m)) refl in
      let k : zero_bytes n ≡ 56 - length (marked m) = rw length_marked (omega arith) in
      c ∙ ap (compress s) q ∙ sym (one_block n s m (firsts 0 56 (marked m) ++ bits n) (padded 56 n m l k) (short-length n m))

  -- the length goes into a block of its own
  pub last_long : (h : State) (z : List ℕ) → 56 ≤ t → t < 64 → h ≡ compress s (set d t 128) → z ≡ put_mid 56 8 (replicate 64 0) b → r ≡ compress h z
      → r ≡ finish n s m
  unfolding bits be
  last_long h z l u p q c =
      let o : length (marked m) ≤ 64 = rw length_marked (omega arith) in
      let w : set d t 128 ≡ firsts 0 64 (marked m) = ap (λ (x : List ℕ). set x t 128) e ∙ set_filled 64 m t 128 at u in
      let i : b ≡ bits n = f ∙ eight_bytes _ in
      let v : z ≡ replicate 56 0 ++ bits n = q ∙ ap (λ (y : List ℕ). put_mid 56 8 (replicate 64 0) y) i ∙ put_behind (replicate 56 0) (replicate 8 0) (bits n) 56 8 refl refl in
      let k : zero_bytes n ≡ 120 - length (marked m) = rw length_marked (omega arith) in
      let j : m ++ padding n ≡ firsts 0 64 (marked m) ++ (replicate 56 0 ++ bits n) =
      padded 120 n m (omega (arith, o)) k ∙ ap (λ (x : List ℕ). x ++ bits n) (filled_more 64 56 (marked m) o) ∙ append_assoc (firsts 0 64 (marked m)) (replicate 56 0) (bits n) in
      c ∙ ap₂ compress (p ∙ ap (compress s) w) v
      ∙ sym (two_blocks n s m (firsts 0 64 (marked m)) (replicate 56 0 ++ bits n) j (length-firsts 0 64 (marked m)) refl)
