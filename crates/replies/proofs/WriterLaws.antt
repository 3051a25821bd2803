-- What the writers wrote: each response and draft, field by field.
-- Assumes nothing.
use mathlib.Core.Path.{◌≡◌, refl, sym, ap, ◌∙◌}
use mathlib.Core.Bool.{Bool, true, false, cond}
use mathlib.Core.List.{List, [], ◌∷◌, ◌++◌, append_assoc}
use Prim.Native.Nat.{ℕ, ◌+◌, ◌-◌}
use native.Mathlib.Omega.{arith}
use lib.ListN.{length, length-append}
use Rattle.model.specs.Tlv.{le, Tlv, tlv, bytes, header, Kind, full, surrogate, text_plain, uaf_v1_tlv, content_hash, tag_of, info_tag, krd_tag, signed_tag, response_tag}
use Rattle.model.specs.Layouts.{fill, write}
use Rattle.model.specs.Records.{Table}
use Rattle.model.specs.Commands.{status_only, name_pairs, name_fields, name_response}
use Rattle.model.proofs.Tlvs.{bytes-append, bytes_one}
use Rattle.tlv.specs.Writing.{Wrote}
use Rattle.tlv.proofs.WriteLaws.{then, same, then_run, then_value}
use Rattle.params.specs.declared.lent.Numbers.{Numbers}
use Rattle.replies.specs.Writes.{info_inside, info_written, info_start, krd, signed_draft, pairs_of}

-- ---- the start of a response, and what follows

length-header : (tag n : ℕ) → length (header tag n) ≡ 4
unfolding le
length-header tag n = refl

module _ {d d₁ d₂ : List ℕ} {a₁ a₂ m n : ℕ} (tag : ℕ) (t : Tlv) (ts : List Tlv) where
  -- a header and a first TLV, then others: the header says how long the value is
  then_rest : n ≡ 6 + m → Wrote d 0 (header tag n ++ bytes (t ∷ [])) 10 d₁ a₁ → Wrote d₁ a₁ (bytes ts) m d₂ a₂
      → Wrote d 0 (bytes (tlv tag (bytes (t ∷ ts)) ∷ [])) (4 + n) d₂ a₂
  then_rest e p q =
      let w : bytes (t ∷ []) ++ bytes ts ≡ bytes (t ∷ ts) = sym (bytes-append (t ∷ []) ts) in
      let x : (header tag n ++ bytes (t ∷ [])) ++ bytes ts ≡ header tag n ++ bytes (t ∷ ts) =
      append_assoc (header tag n) (bytes (t ∷ [])) (bytes ts) ∙ ap (λ (s : List ℕ). header tag n ++ s) w in
      let both = same x refl (then p q) in
      let l : length (bytes (t ∷ ts)) ≡ n =
      omega (arith, e, both.size, length-append (header tag n) (bytes (t ∷ ts)), length-header tag n) in
      same (sym (bytes_one tag n (bytes (t ∷ ts)) l)) (omega arith) both

-- ---- a status alone

module _ {d d₁ : List ℕ} {a₁ : ℕ} (k : Kind) (n : ℕ) where
  pub wrote-status : Wrote d 0 (header (response_tag k) 6 ++ bytes (tlv 0x2808 (le 2 n) ∷ [])) 10 d₁ a₁
      → Wrote d 0 (write (status_only k) (le 2 n ∷ [])) 10 d₁ a₁
  unfolding write fill bytes le
  wrote-status p = same (sym (bytes_one (response_tag k) 6 (bytes (tlv 0x2808 (le 2 n) ∷ [])) refl)) refl p

-- ---- GetInfo

module _ {d d₁ d₂ d₃ d₄ d₅ d₆ d₇ d₈ : List ℕ} {at a₁ a₂ a₃ a₄ a₅ a₆ a₇ a₈ : ℕ} (a m : List ℕ) where
  -- a header, and the seven fields one after the other
  pub wrote-inside : length a ≡ 9 → length m ≡ 15
      → Wrote d at (header info_tag 75) 4 d₁ a₁
      → Wrote d₁ a₁ (bytes (tlv 0x280D (0 ∷ []) ∷ [])) 5 d₂ a₂
      → Wrote d₂ a₂ (bytes (tlv 0x2E0B a ∷ [])) (4 + length a) d₃ a₃
      → Wrote d₃ a₃ (bytes (tlv 0x2809 m ∷ [])) (4 + length m) d₄ a₄
      → Wrote d₄ a₄ (bytes (tlv 0x280C text_plain ∷ [])) 14 d₅ a₅
      → Wrote d₅ a₅ (bytes (tlv 0x280A uaf_v1_tlv ∷ [])) 12 d₆ a₆
      → Wrote d₆ a₆ (bytes (tlv 0x2807 (le 2 full) ∷ [])) 6 d₇ a₇
      → Wrote d₇ a₇ (bytes (tlv 0x2807 (le 2 surrogate) ∷ [])) 6 d₈ a₈
      → Wrote d at (bytes (tlv info_tag (info_inside a m) ∷ [])) 79 d₈ a₈
  unfolding info_inside write fill
  wrote-inside j k p i v w x y f s =
      then_value info_tag p
      (same refl (omega arith)
      (then_run _ _ i (then_run _ _ v (then_run _ _ w (then_run _ _ x (then_run _ _ y (then_run _ _ f s)))))))

module _ {d d₁ d₂ d₃ : List ℕ} {a₁ a₂ a₃ : ℕ} (a m : List ℕ) where
  pub wrote-info : Wrote d 0 (header 0x3601 90 ++ bytes (tlv 0x2808 (le 2 0) ∷ [])) 10 d₁ a₁
      → Wrote d₁ a₁ (bytes (tlv 0x280E (1 ∷ []) ∷ [])) 5 d₂ a₂
      → Wrote d₂ a₂ (bytes (tlv info_tag (info_inside a m) ∷ [])) 79 d₃ a₃
      → Wrote d 0 (info_written a m) 94 d₃ a₃
  unfolding info_inside info_written write fill
  wrote-info p v i = then_rest 0x3601 _ _ refl p (then_run _ _ v i)

-- ---- KRD

module _ {d d₁ d₂ d₃ d₄ d₅ d₆ d₇ : List ℕ} {a₁ a₂ a₃ a₄ a₅ a₆ a₇ : ℕ} (a : List ℕ) (n : Numbers) (c k p : List ℕ) where
  -- a header, and the six fields one after the other
  pub wrote-krd : {len : ℕ} → length a ≡ 9 → length k ≡ 32 → len ≡ 84 + length c + length p
      → Wrote d 0 (header krd_tag (len - 4)) 4 d₁ a₁
      → Wrote d₁ a₁ (bytes (tlv 0x2E0B a ∷ [])) (4 + length a) d₂ a₂
      → Wrote d₂ a₂ (bytes (tlv 0x2E0E (info_start n 0x01 ++ le 2 n.key_algorithm) ∷ [])) 11 d₃ a₃
      → Wrote d₃ a₃ (bytes (tlv 0x2E0A c ∷ [])) (4 + length c) d₄ a₄
      → Wrote d₄ a₄ (bytes (tlv 0x2E09 k ∷ [])) (4 + length k) d₅ a₅
      → Wrote d₅ a₅ (bytes (tlv 0x2E0D (0 ∷ 0 ∷ 0 ∷ 0 ∷ 0 ∷ 0 ∷ 0 ∷ 0 ∷ []) ∷ [])) 12 d₆ a₆
      → Wrote d₆ a₆ (bytes (tlv 0x2E0C p ∷ [])) (4 + length p) d₇ a₇
      → Wrote d 0 (krd a n c k p) len d₇ a₇
  unfolding krd write fill le
  wrote-krd i j e h v w x y z u =
      same refl (omega arith)
      (then_value krd_tag h
      (same refl (omega arith) (then_run _ _ v (then_run _ _ w (then_run _ _ x (then_run _ _ y (then_run _ _ z u)))))))

-- ---- SIGNED_DATA

-- a TLV without a value is its header
pub wrote-empty : {d d' : List ℕ} {at r : ℕ} (tag : ℕ) → Wrote d at (header tag 0) 4 d' r → Wrote d at (bytes (tlv tag [] ∷ [])) 4 d' r
unfolding bytes le
wrote-empty tag p = p

-- the transaction hash has one tag, with content and without
hash_tag : (content : Bool) → tag_of (content_hash content) ≡ 0x2E10
hash_tag true = refl
hash_tag false = refl

module _ {d d₁ d₂ d₃ d₄ d₅ d₆ d₇ d₈ : List ℕ} {a₁ a₂ a₃ a₄ a₅ a₆ a₇ a₈ : ℕ} (content : Bool) (a : List ℕ) (n : Numbers) where
  -- a header, and the seven fields one after the other
  pub wrote-signed : (nonce c hash k : List ℕ) (count : ℕ) {mode len : ℕ} → mode ≡ cond content 0x02 0x01 → length a ≡ 9 → length k ≡ 32
      → len ≡ 78 + length c + length nonce + cond content 36 4
      → Wrote d 0 (header signed_tag (len - 4)) 4 d₁ a₁
      → Wrote d₁ a₁ (bytes (tlv 0x2E0B a ∷ [])) (4 + length a) d₂ a₂
      → Wrote d₂ a₂ (bytes (tlv 0x2E0E (info_start n mode) ∷ [])) 9 d₃ a₃
      → Wrote d₃ a₃ (bytes (tlv 0x2E0F nonce ∷ [])) (4 + length nonce) d₄ a₄
      → Wrote d₄ a₄ (bytes (tlv 0x2E0A c ∷ [])) (4 + length c) d₅ a₅
      → Wrote d₅ a₅ (bytes (tlv 0x2E10 (cond content hash []) ∷ [])) (cond content 36 4) d₆ a₆
      → Wrote d₆ a₆ (bytes (tlv 0x2E09 k ∷ [])) (4 + length k) d₇ a₇
      → Wrote d₇ a₇ (bytes (tlv 0x2E0D (le 4 count) ∷ [])) 8 d₈ a₈
      → Wrote d 0 (signed_draft content a n nonce c hash k count) len d₈ a₈
  unfolding signed_draft write fill
  wrote-signed nonce c hash k count e i j l h p q x y z u v =
      rw (hash_tag content)
      (same refl (omega arith)
      (then_value signed_tag h
      (same refl (omega arith)
      (then_run _ _ p (then_run _ _ (rw e at q) (then_run _ _ x (then_run _ _ y (then_run _ _ z (then_run _ _ u v)))))))))

-- ---- the names of several

module _ {d d₁ d₂ : List ℕ} {a₁ a₂ len n : ℕ} (rs : Table) where
  -- a header, OK and the pairs
  pub wrote-names : len ≡ 10 + n
      → Wrote d 0 (header 0x3603 (len - 4) ++ bytes (tlv 0x2808 (le 2 0) ∷ [])) 10 d₁ a₁
      → Wrote d₁ a₁ (pairs_of rs) n d₂ a₂
      → Wrote d 0 (name_response rs) len d₂ a₂
  unfolding pairs_of name_response write fill
  wrote-names e p q = same refl (omega arith) (then_rest 0x3603 _ (fill (name_pairs (length rs)) (name_fields rs)) (omega arith) p q)
