-- The buffer: bytes with zeros behind them, and what is put there.
use Rattle.std.proofs.Common.{◌≡◌, ℕ, zero, suc, ◌+◌, ◌-◌, ◌*◌, ◌<◌, ◌≤◌, List, [], ◌∷◌, ◌++◌, length, get_or, take, drop, set, replicate, sym, refl, ap, ◌∙◌, ap₂, append_assoc, append-nil, add-one, div-one, arith, take_at, subst, length-append, length-take-le, drop_at}
use lib.ListN.{drop_of_length-le, length-replicate, replicate-append-replicate}
use borrow.Rule.Slice.PartMut.{put_mid}
use Rattle.std.specs.Int.{w32, w64, to_be_bytes}
use Rattle.model.specs.Sha256.{be}
use Rattle.tlv.specs.Firsts.{firsts}
use Rattle.tlv.proofs.FirstLaws.{firsts-over, length-firsts}
use Rattle.std.proofs.lemmas.List.{ext_get_or}
use Rattle.std.specs.Array.{IsFromFnResult, IsFromFnResultFrom}
use denote.Param.Members.{Mut, Called}
use lib.Dec.{leb}
use borrow.Author.Tests.{leb-true, leb-false}
use Rattle.model.proofs.Basics.{split}

-- ---- zeros

only_zeros : (n : ℕ) → firsts {A = ℕ} 0 n [] ≡ replicate n 0
unfolding firsts
only_zeros zero = refl
only_zeros (suc n) = ap (λ (l : List ℕ). 0 ∷ l) (only_zeros n)

drop-replicate : (i j : ℕ) → i ≤ j → drop {A = ℕ} i (replicate j 0) ≡ replicate (j - i) 0
drop-replicate i j h =
    let e : i + (j - i) ≡ j = omega arith in
    ap (λ (n : ℕ). drop {A = ℕ} i (replicate n 0)) (sym e) ∙ ap (λ (l : List ℕ). drop i l) (sym (replicate-append-replicate i (j - i) 0))
    ∙ drop_at (replicate i 0) (replicate (j - i) 0) i (length-replicate i 0)

pub filled : (n : ℕ) (m : List ℕ) → length m ≤ n → m ++ replicate (n - length m) 0 ≡ firsts 0 n m
filled n m h =
    ap (λ (l : List ℕ). m ++ l) (sym (ap (λ (l : List ℕ). drop (length m) l) (only_zeros n) ∙ drop-replicate (length m) n h))
    ∙ firsts-over 0 n m h

more_left : (n j l : ℕ) → l ≤ n → n + j - l ≡ (n - l) + j
more_left n j l h = omega arith

-- more of them
pub filled_more : (n j : ℕ) (m : List ℕ) → length m ≤ n → firsts 0 (n + j) m ≡ firsts 0 n m ++ replicate j 0
filled_more n j m h =
    sym (filled (n + j) m (omega arith)) ∙ ap (λ (i : ℕ). m ++ replicate i 0) (more_left n j (length m) h)
    ∙ ap (λ (l : List ℕ). m ++ l) (sym (replicate-append-replicate (n - length m) j 0))
    ∙ sym (append_assoc m (replicate (n - length m) 0) (replicate j 0)) ∙ ap (λ (l : List ℕ). l ++ replicate j 0) (filled n m h)

-- ---- what is put there

-- one byte behind the bytes m
set_behind : (n v : ℕ) (m : List ℕ) → length m < n → set (firsts 0 n m) (length m) v ≡ firsts 0 n (m ++ (v ∷ []))
unfolding firsts
set_behind zero v m h = absurd (omega arith)
set_behind (suc n) v [] h = refl
set_behind (suc n) v (x ∷ m) h = ap (λ (l : List ℕ). x ∷ l) (set_behind n v m (omega arith))

pub set_filled : (n : ℕ) (m : List ℕ) (at v : ℕ) → length m ≡ at → at < n → set (firsts 0 n m) at v ≡ firsts 0 n (m ++ (v ∷ []))
set_filled n m at v e h = ap (λ (i : ℕ). set (firsts 0 n m) i v) (sym e) ∙ set_behind n v m (omega arith)

firsts_at : (n : ℕ) (l : List ℕ) (i : ℕ) → i < n → get_or (firsts 0 n l) i 0 ≡ get_or l i 0
unfolding firsts
firsts_at zero l i h = absurd (omega arith)
firsts_at (suc n) [] zero h = refl
firsts_at (suc n) [] (suc i) h = firsts_at n [] i (omega arith)
firsts_at (suc n) (x ∷ l) zero h = refl
firsts_at (suc n) (x ∷ l) (suc i) h = firsts_at n l i (omega arith)

-- an array that is made by calls, each of which gives the byte that stands there
module _ {F : Type 0} (g : Mut F (ℕ × Unit {0}) ℕ) (l : List ℕ) (f : F) (step : (i y : ℕ) (q : F) → Called g f (i, tt) y q → (y ≡ get_or l i 0) × (q ≡ f)) where
  made_from : (d : List ℕ) (n i k : ℕ) → IsFromFnResultFrom g f d i n → i ≤ k → k < i + n → get_or d k 0 ≡ get_or l k 0
  made_from d zero i k c h u = absurd (omega arith)
  made_from d (suc n) i k (q, y, at, called, rest) h u =
      let s = step i y q called in
      split (leb (suc i) k)
      (λ e. made_from d n (i + 1) k (subst (λ (p : F). IsFromFnResultFrom g p d (i + 1) n) s.1 rest) (omega (arith, leb-true (suc i) k e)) (omega arith))
      (λ e. let m : k ≡ i = omega (arith, leb-false (suc i) k e) in rw m (at.1 0 ∙ s.0))

  pub made : (n : ℕ) (d : List ℕ) → IsFromFnResult g f d n → d ≡ firsts 0 n l
  made n d r =
      ext_get_or 0 d (firsts 0 n l) (r.long ∙ sym (length-firsts 0 n l))
      (λ i h. made_from d n 0 i r.each (omega arith) (omega (arith, r.long)) ∙ sym (firsts_at n l i (omega (arith, r.long))))

-- bytes that are put right behind f, as many as stood there
pub put_behind : (f z s : List ℕ) (at k : ℕ) → length f ≡ at → length z ≡ k → put_mid at k (f ++ z) s ≡ f ++ s
put_behind f z s at k e l =
    ap₂ (λ (x y : List ℕ). x ++ (s ++ y)) (take_at f z at e) (ap (λ (x : List ℕ). drop k x) (drop_at f z at e) ∙ drop_of_length-le z (omega arith))
    ∙ ap (λ (x : List ℕ). f ++ x) (append-nil s)

-- ---- words as bytes

-- the first n words of h, each as four bytes
unfoldable pub spelt : List ℕ → ℕ → List ℕ
spelt h zero = []
spelt h (suc n) = spelt h n ++ be 4 (get_or h n 0)

-- the library's four bytes of a word are the definition's
pub four_bytes : (x : ℕ) → to_be_bytes w32 x ≡ be 4 x
unfolding be
four_bytes x = rw div-one

-- and of a number of eight bytes
pub eight_bytes : (x : ℕ) → to_be_bytes w64 x ≡ be 8 x
unfolding be
eight_bytes x = rw div-one

-- one word more
pub spelt-next : (d h b : List ℕ) (i k : ℕ) → length d ≡ 32 → i < 8 → take (4 * i) d ≡ spelt h i → b ≡ to_be_bytes w32 (get_or h i 0)
    → take (4 * (i + 1)) (put_mid (4 * i) k d b) ≡ spelt h (i + 1)
unfolding spelt
spelt-next d h b i k l u e f =
    let n : length (take (4 * i) d ++ to_be_bytes w32 (get_or h i 0)) ≡ 4 * (i + 1) = rw (length-append, length-take-le (4 * i) d (omega arith)) (omega arith) in
    rw (f, ← append_assoc, take_at _ _ _ n, e, four_bytes, add-one)
