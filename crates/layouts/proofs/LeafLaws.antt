-- What the leaves look at: a TLV's tag and where it ends, then its value's size, then the value.
-- Assumes nothing.
use mathlib.Core.Path.{◌≡◌, refl, sym, ◌∙◌}
use mathlib.Core.Bool.{Bool, true, false, cond, ◌&&◌, ◌||◌, and-true, or-false}
use mathlib.Core.List.{List, [], ◌∷◌}
use Prim.Native.Nat.{ℕ, zero, suc, ◌+◌, ◌-◌, ◌*◌, ◌≤◌, ◌<◌}
use native.Mathlib.Omega.{arith}
use lib.ListN.{length, get_or}
use lib.Seq.{take_all, get_or-take, get_or-drop}
use lib.Dec.{leb, eqb}
use borrow.Author.Tests.{leb-true, le-leb, eq-eqb, ne_eqb, eqb-true, eqb-false}
use Rattle.model.specs.Lists.{eq_bytes}
use Rattle.model.specs.Tlv.{num, rule, sized, aaid, assertion_info}
use Rattle.model.specs.Layouts.{reads}
use Rattle.model.proofs.Basics.{split, and_left, and_right}
use Rattle.tlv.specs.Numbers.{num_at}
use Rattle.tlv.specs.Heads.{head_at, between}
use Rattle.tlv.specs.declared.heads.Head.{Head}
use Rattle.tlv.specs.declared.heads.Head.TheVariants.{Tlv as Found, Bad, End}
use Rattle.tlv.proofs.HeadLaws.{IsTlv, head_tlv, tlv-is, length_part}
use Rattle.layouts.specs.Places.{nowhere, reads_at, past_head, after_tlv, obeys, after_rule, after_field, in_head, in_group}
use Rattle.layouts.specs.Groups.{signed_fields, signed_rest, is_signed_data}
use Rattle.layouts.proofs.PlaceLaws.{past_head_lem, found_if, from_front, then-field, tlv-before}

-- ---- a TLV by its tag

module _ (t : ℕ) (p : List ℕ → Bool) (s : List ℕ) (at : ℕ) where
  none_head : (h : Head) → head_at s at ≡ h
      → (at + 4 + num_at 2 s (at + 2) ≤ length s → num_at 2 s at ≡ t → p (between s (at + 4) (at + 4 + num_at 2 s (at + 2))) ≡ true → ⊥)
      → past_head t p s h ≡ nowhere s
  none_head (Found tag start stop) e f =
      let i = tlv-is s at tag start stop e in
      split (eqb tag t && p (between s start stop))
      (λ b. let k : tag ≡ t = eqb-true _ _ (and_left (eqb tag t) _ b) in
      let v : p (between s (at + 4) (at + 4 + num_at 2 s (at + 2))) ≡ true = rw (i.start_is, i.end_is) at (and_right (eqb tag t) _ b) in
      absurd (f (omega (arith, i)) (sym i.tag_is ∙ k) v))
      (λ b. rw b)
  none_head Bad e f = refl
  none_head End e f = refl

  -- nothing is found where its end, its tag and its value cannot all be as they must
  pub tlv_none : (at + 4 + num_at 2 s (at + 2) ≤ length s → num_at 2 s at ≡ t → p (between s (at + 4) (at + 4 + num_at 2 s (at + 2))) ≡ true → ⊥)
      → nowhere s ≡ after_tlv t p s at
  unfolding after_tlv
  tlv_none f = sym (none_head (head_at s at) refl f)

  pub tlv_here : {tag len : ℕ} → tag ≡ num_at 2 s at → tag ≡ t → len ≡ num_at 2 s (at + 2) → at + 4 + len ≤ length s
      → p (between s (at + 4) (at + 4 + len)) ≡ true → after_tlv t p s at ≡ at + 4 + len
  tlv_here e k d h v = past_head_lem t p s at (head_tlv s at _ _ e d h) ∙ simp (eq-eqb _ _ k, v)

module _ (t : ℕ) (s : List ℕ) (at : ℕ) where
  -- its value's place, by whether it ends with the stretch
  in_after : (h : Head) → head_at s at ≡ h → (end : ℕ) → end ≡ past_head t (λ v. true) s h
      → in_head t s h ≡ cond (eqb end (length s)) (at + 4) (nowhere s)
  in_after (Found tag start stop) e end d =
      let i = tlv-is s at tag start stop e in
      split (eqb tag t)
      (λ b. let k : end ≡ stop = rw b at d in rw (b, k, i.start_is))
      (λ b. let k : end ≡ nowhere s = rw b at d in rw (b, ne_eqb end (length s) (λ z. omega arith)))
  in_after Bad e end d = rw (ne_eqb end (length s) (λ z. omega arith))
  in_after End e end d = rw (ne_eqb end (length s) (λ z. omega arith))

  pub in_last : {end : ℕ} → end ≡ after_tlv t (λ v. true) s at → in_group t s at ≡ cond (eqb end (length s)) (at + 4) (nowhere s)
  unfolding in_group after_tlv
  in_last {end} e = in_after (head_at s at) refl end e

-- ---- more is asked of a value

is_head : {s : List ℕ} {at tag start end : ℕ} → IsTlv s at tag start end → head_at s at ≡ Found tag start end
is_head {s} {at} {tag} i = rw (i.start_is, i.end_is) (head_tlv s at tag _ i.tag_is refl (omega (arith, i)))

module _ (t : ℕ) (p q : List ℕ → Bool) (s : List ℕ) (at : ℕ) {end : ℕ} (e : end ≡ after_tlv t p s at) where
  -- where nothing passes the first test
  pub more-nowhere : ((v : List ℕ) → q v ≡ true → p v ≡ true) → length s < end → after_tlv t q s at ≡ nowhere s
  more-nowhere f k =
      sym
      (tlv_none t q s at
      (λ h d v. let x : end ≡ at + 4 + num_at 2 s (at + 2) = e ∙ tlv_here t p s at refl d refl h (f _ v) in omega arith))

  -- where something does, b is what the second gives
  pub more_asked : (b : Bool) → end ≤ length s → q (between s (at + 4) end) ≡ b → after_tlv t q s at ≡ cond b end (nowhere s)
  more_asked b h k = past_head_lem t q s at (is_head (tlv-before h t p e).0) ∙ simp (eq-eqb t t refl, k)

-- ---- a value's size

module _ (t m n : ℕ) (s : List ℕ) (at : ℕ) where
  value-length : {len : ℕ} → at + 4 + len ≤ length s → length (between s (at + 4) (at + 4 + len)) ≡ len
  value-length {len} h =
      let e : at + 4 + len - (at + 4) ≡ len = omega arith in
      length_part (record { ordered = omega arith; within = h }) ∙ e

  pub sized_none : (at + 4 + num_at 2 s (at + 2) ≤ length s → num_at 2 s at ≡ t → m ≤ num_at 2 s (at + 2) → num_at 2 s (at + 2) ≤ n → ⊥)
      → nowhere s ≡ after_rule (sized t m n) s at
  sized_none f =
      tlv_none t (obeys (sized t m n)) s at
      (λ h e v. let len : ℕ = num_at 2 s (at + 2) in
      let o : (leb m len && leb len n) ≡ true = sym (and-true _) ∙ (rw (value-length h) at v) in
      f h e (leb-true _ _ (and_left (leb m len) _ o)) (leb-true _ _ (and_right (leb m len) _ o)))

  pub sized_here : {tag len : ℕ} → tag ≡ num_at 2 s at → tag ≡ t → len ≡ num_at 2 s (at + 2) → m ≤ len → len ≤ n → at + 4 + len ≤ length s
      → after_rule (sized t m n) s at ≡ at + 4 + len
  sized_here e k d x y h =
      tlv_here t (obeys (sized t m n)) s at e k d h (rw (value-length h) (simp (le-leb _ _ x, le-leb _ _ y)))

-- ---- a value of this size of which more is asked

module _ (t m n : ℕ) (a : List ℕ → Bool) (s : List ℕ) (at : ℕ) {end : ℕ} (e : end ≡ after_rule (sized t m n) s at) where
  pub rule-nowhere : length s < end → after_rule (rule t m n a) s at ≡ nowhere s
  rule-nowhere h =
      more-nowhere t (obeys (sized t m n)) (obeys (rule t m n a)) s at e
      (λ v k. and-true _ ∙ and_left (leb m (length v) && leb (length v) n) _ k) h

  pub rule_asked : (b : Bool) → end ≤ length s → a (between s (at + 4) end) ≡ b → after_rule (rule t m n a) s at ≡ cond b end (nowhere s)
  rule_asked b h k =
      let v : List ℕ = between s (at + 4) end in
      let o : (leb m (length v) && leb (length v) n) ≡ true = sym (and-true _) ∙ (tlv-before h t (obeys (sized t m n)) e).1 in
      more_asked t (obeys (sized t m n)) (obeys (rule t m n a)) s at e b h (rw o k)

-- where it stands and how long it is
pub record Stands (s : List ℕ) (at m n end : ℕ) : Type 0 where
  pub within : end ≤ length s
  pub least : at + 4 + m ≤ end
  pub most : end ≤ at + 4 + n

-- so long is its value
pub sized-value : (t m n : ℕ) (s : List ℕ) (at : ℕ) {end : ℕ} → end ≡ after_rule (sized t m n) s at → end ≤ length s
    → (m ≤ length (between s (at + 4) end)) × (length (between s (at + 4) end) ≤ n)
sized-value t m n s at {end} e h =
    let v : List ℕ = between s (at + 4) end in
    let o : (leb m (length v) && leb (length v) n) ≡ true = sym (and-true _) ∙ (tlv-before h t (obeys (sized t m n)) e).1 in
    (leb-true _ _ (and_left (leb m (length v)) _ o), leb-true _ _ (and_right (leb m (length v)) _ o))

pub sized-stands : (t m n : ℕ) (s : List ℕ) (at : ℕ) {end : ℕ} → end ≡ after_rule (sized t m n) s at → end ≤ length s → Stands s at m n end
sized-stands t m n s at {end} e h =
    let i = (tlv-before h t (obeys (sized t m n)) e).0 in
    let k : length (between s (at + 4) end) ≡ end - (at + 4) = length_part (record { ordered = i.ordered; within = h }) in
    let v = sized-value t m n s at e h in
    record { within = h; least = omega (arith, i); most = omega (arith, i) }

-- ---- the value as a number

pub num-whole : (w : ℕ) (v : List ℕ) → length v ≤ w → num_at w v 0 ≡ num v
unfolding num_at
num-whole w v h = rw (take_all w v h)

abbrev zeros : ℕ → List ℕ
zeros zero = []
zeros (suc n) = 0 ∷ zeros n

-- bytes are all zero exactly if the number that they spell is
pub zeros_is : (n : ℕ) (v : List ℕ) → length v ≡ n → eq_bytes (zeros n) v ≡ eqb (num v) 0
unfolding eq_bytes num
zeros_is zero [] h = refl
zeros_is zero (b ∷ v) h = absurd (omega arith)
zeros_is (suc n) [] h = absurd (omega arith)
zeros_is (suc n) (b ∷ v) h =
    rw (zeros_is n v (omega arith))
    (split (eqb 0 b)
    (λ x. let z : 0 ≡ b = eqb-true _ _ x in split (eqb (num v) 0)
    (λ y. let w : num v ≡ 0 = eqb-true _ _ y in rw (x, y) (sym (eq-eqb (b + 256 * num v) 0 (omega arith))))
    (λ y. let w : num v ≡ 0 → ⊥ = eqb-false _ _ y in rw (x, y) (sym (ne_eqb (b + 256 * num v) 0 (λ k. w (omega arith))))))
    (λ x. let z : 0 ≡ b → ⊥ = eqb-false _ _ x in rw x (sym (ne_eqb (b + 256 * num v) 0 (λ k. z (omega arith))))))

-- its third byte
mode_at : {s : List ℕ} {at end m n : ℕ} → 3 ≤ m → Stands s at m n end → get_or (between s (at + 4) end) 2 0 ≡ get_or s (at + 6) 0
mode_at {s} {at} {end} h i =
    let e : at + 4 + 2 ≡ at + 6 = omega arith in
    get_or-take (end - (at + 4)) _ 2 0 (omega (arith, i)) ∙ get_or-drop (at + 4) s 2 0 ∙ rw e

-- ---- SIGNED_DATA, by its mode

module _ (s : List ℕ) {a b : ℕ} (ea : a ≡ after_field aaid s 0) (eb : b ≡ after_rule (sized 0x2E0E 5 5) s a) where
  -- ASSERTION_INFO with the mode of a layout, then the rest
  info-reads : (content : Bool) → reads (signed_fields content) s ≡ reads_at (signed_rest content) s (after_field (assertion_info 5 (cond content 2 1)) s a)
  info-reads content = sym (from_front (then-field ea (then-field refl (record { given = refl }))))

  info_mode : (content : Bool) → b ≤ length s
      → reads (signed_fields content) s ≡ (eqb (get_or s (a + 6) 0) (cond content 2 1) && reads_at (signed_rest content) s b)
  info_mode content h =
      let i = sized-stands 0x2E0E 5 5 s a eb h in
      let m : ℕ = cond content 2 1 in
      info-reads content
      ∙ rw (rule_asked 0x2E0E 5 5 (λ v. eqb (get_or v 2 0) m) s a eb (eqb (get_or s (a + 6) 0) m) h (rw (mode_at (omega arith) i)))
      (found_if (eqb (get_or s (a + 6) 0) m) (signed_rest content) s b)

  info_none : (content : Bool) → length s < b → reads (signed_fields content) s ≡ false
  info_none content h =
      info-reads content
      ∙ rw (rule-nowhere 0x2E0E 5 5 (λ v. eqb (get_or v 2 0) (cond content 2 1)) s a eb h)
      (found_if false (signed_rest content) s b)

  pub signed_none : length s < b → false ≡ is_signed_data s
  signed_none h = sym (rw (info_none true h, info_none false h))

  -- x is the mode
  module _ {x : ℕ} (h : b ≤ length s) (e : x ≡ get_or s (a + 6) 0) where
    by_mode : is_signed_data s ≡ (eqb x 2 && reads_at (signed_rest true) s b || eqb x 1 && reads_at (signed_rest false) s b)
    by_mode = rw (info_mode true h, info_mode false h, ← e)

    pub signed_other : (x ≡ 2 → ⊥) → (x ≡ 1 → ⊥) → false ≡ is_signed_data s
    signed_other k l = sym (by_mode ∙ simp (ne_eqb x 2 k, ne_eqb x 1 l))

    pub signed-mode : 1 ≤ x → x ≤ 2 → is_signed_data s ≡ reads_at (signed_rest (eqb x 2)) s b
    signed-mode k l =
        by_mode
        ∙ split (eqb x 2)
        (λ d. let m : eqb x 1 ≡ false = ne_eqb x 1 (λ z. omega (arith, eqb-true)) in rw (d, m) (or-false _))
        (λ d. let n : x ≡ 2 → ⊥ = eqb-false _ _ d in let m : eqb x 1 ≡ true = eq-eqb x 1 (omega arith) in rw (d, m))
