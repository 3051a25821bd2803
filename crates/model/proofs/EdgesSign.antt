-- The edges of Sign: the choice, the list of names, the last count, and the bytes of a draft.
-- Assumes nothing.
use mathlib.Core.Path.{◌≡◌, refl, sym, ap, ◌∙◌}
use mathlib.Core.Bool.{Bool, true, false, not, cond, ◌&&◌, ◌||◌}
use mathlib.Core.List.{List, [], ◌∷◌, ◌++◌, map}
use Prim.Native.Nat.{ℕ, suc, ◌≤◌}
use native.Mathlib.Omega.{arith}
use lib.ListN.{length}
use lib.Dec.{eqb}
use borrow.Author.Tests.{eq-eqb, ne_eqb, not-true}
use Rattle.model.specs.Lists.{select, empty, eq_bytes, among, all}
use Rattle.model.specs.Sha256.{sha256}
use Rattle.model.specs.Tlv.{le, Tlv, tlv, bytes, app_id, challenge_hash, access_token, key_handle, transaction_content, sign, broken, fields_in, field_in}
use Rattle.model.specs.Layouts.{fill, write}
use Rattle.model.specs.Records.{Record, Table, own, key_ids, has_mixed, table_ok}
use Rattle.model.specs.Commands.{Lent, keep, set_count, Call, mixed_of, judge, response, draft, is_key, with_count, apply, only, display_status, chosen, name_pairs, name_fields, name_response, has_content, sign_draft, sign_one, sign_chosen, decide_sign, decide, perform}
use Rattle.model.proofs.Basics.{split, and_left, and_right, eq_bytes-eq, eq_bytes_sym, eq_bytes-refl, or_left, or_right, both, select-same, select_both}
use Rattle.model.proofs.HashLaws.{mixed-alike, empty-not_hashed, content_hashed, hash_alike}
use Rattle.model.proofs.Edges.{says, carried, Stands, stands, alone}

-- ---- the choice

-- what is chosen depends only on whether handles are given, and which
pub chosen-same : (hs gs : List (List ℕ)) (mine : Table) → empty hs ≡ empty gs → ((k : List ℕ) → among k hs ≡ among k gs)
    → chosen hs mine ≡ chosen gs mine
unfolding chosen
chosen-same hs gs mine e f = select-same _ _ (λ x. cc (e, f x.key_id)) mine

among_at : (k : List ℕ) (a : List (List ℕ)) (h : List ℕ) (b : List (List ℕ)) → among k (a ++ (h ∷ b)) ≡ (eq_bytes h k || among k (a ++ b))
among_at k [] h b = refl
among_at k (x ∷ a) h b = split (eq_bytes x k) (λ e. split (eq_bytes h k) (λ f. rw (e, f)) (λ f. rw (e, f))) (λ e. rw e (among_at k a h b))

not-empty : {A : Type 0} (a : List A) (x : A) (b : List A) → empty (a ++ (x ∷ b)) ≡ false
not-empty [] x b = refl
not-empty (y ∷ a) x b = refl

some_among : (k : List ℕ) (hs : List (List ℕ)) → among k hs ≡ true → empty hs ≡ false
some_among k [] e = sym e
some_among k (h ∷ hs) e = refl

-- a handle given twice, wherever, chooses as if it were given singly
pub repeated : (a : List (List ℕ)) (h : List ℕ) (b : List (List ℕ)) (mine : Table) → among h (a ++ b) ≡ true
    → chosen (a ++ (h ∷ b)) mine ≡ chosen (a ++ b) mine
repeated a h b mine e =
    chosen-same _ _ mine (not-empty a h b ∙ sym (some_among h (a ++ b) e))
    (λ k.
    among_at k a h b
    ∙ split (eq_bytes h k) (λ f. let q : h ≡ k = eq_bytes-eq h k f in cc) (λ f. rw f))

-- a handle that is no KeyID of the caller's records chooses none of them, whether it is a stranger's or nobody's
pub unknown : (a : List (List ℕ)) (h : List ℕ) (b : List (List ℕ)) (mine : Table) → among h (key_ids mine) ≡ false
    → chosen (a ++ (h ∷ b)) mine ≡ select (λ r. among r.key_id (a ++ b)) mine
unfolding chosen
unknown a h b [] e = refl
unknown a h b (r ∷ mine) e =
    let f : eq_bytes h r.key_id ≡ false = eq_bytes_sym h r.key_id ∙ or_left (eq_bytes r.key_id h) _ e in
    cc (unknown a h b mine (or_right (eq_bytes r.key_id h) _ e), not-empty a h b, among_at r.key_id a h b)

-- ---- several

abbrev pub pair : Record → Tlv
pair r = tlv 0x3802 (bytes (tlv 0x2806 r.name ∷ tlv 0x2801 r.key_id ∷ []))

names_filled : (rs : Table) → fill (name_pairs (length rs)) (name_fields rs) ≡ map pair rs
unfolding fill
names_filled [] = refl
names_filled (r ∷ rs) = ap (λ ts. pair r ∷ ts) (names_filled rs)

-- a username and a KeyID for each, in the order of the table
pub names : (rs : Table) → name_response rs ≡ bytes (tlv 0x3603 (bytes (tlv 0x2808 (0x00 ∷ 0x00 ∷ []) ∷ map pair rs)) ∷ [])
unfolding name_response write fill le
names rs = rw (names_filled rs)

-- ---- a Sign that is well formed and verified

abbrev pub picked : Call → Table → Table
picked c t = chosen (fields_in key_handle c.command) (own (mixed_of c) t)

pub several_listed : (s : List ℕ) (l : Lent) (rs : Table) → 2 ≤ length rs
    → sign_chosen s l rs ≡ record { answer = response (name_response rs); change = keep }
unfolding sign_chosen
several_listed s l [] h = absurd (omega arith)
several_listed s l (r ∷ []) h = absurd (omega arith)
several_listed s l (r ∷ q ∷ rs) h = refl

-- "with non-empty transaction content the display result gives" a status
abbrev pub declined : Call → Bool
declined c = has_content c.command && not (eqb c.lent.display 0)

-- the record chosen has a place in the table; there it gets this count, and the rest is as it was
pub record Signed (c : Call) (t : Table) (r : Record) (n : ℕ) : Type 0 where
  pub place : Stands (is_key (mixed_of c) r.key_id) r t
  pub counted : perform sign c t
      ≡ record {
        answer = draft (sign_draft c.command c.lent r);
        left = place.before ++ (with_count r n ∷ place.after);
      }

chosen-stands : (m : List ℕ) (hs : List (List ℕ)) (t : Table) (r : Record) (rs : Table) → chosen hs (own m t) ≡ r ∷ rs
    → Stands (is_key m r.key_id) r t
unfolding chosen own
chosen-stands m hs t r rs e =
    let s = stands (λ x. has_mixed m x && (empty hs || among x.key_id hs)) r rs t (sym (select_both _ (has_mixed m) t) ∙ e) in
    record {
      before = s.before;
      after = s.after;
      whole = s.whole;
      passes = both (and_left (has_mixed m r) _ s.passes) (eq_bytes-refl r.key_id);
    }

map_same : (f : Record → Record) (p : Record → Bool) → ((x : Record) → p x ≡ true → f x ≡ x) → (t : Table) → all p t ≡ true
    → map f t ≡ t
map_same f p g [] e = refl
map_same f p g (x ∷ t) e = cc (g x (and_left (p x) _ e), map_same f p g t (and_right (p x) _ e))

map-one : (f : Record → Record) (p : Record → Bool) → ((x : Record) → p x ≡ true → f x ≡ x)
    → (a : Table) (r : Record) (b : Table) → all p (a ++ b) ≡ true → map f (a ++ (r ∷ b)) ≡ a ++ (f r ∷ b)
map-one f p g [] r b e = ap (λ t. f r ∷ t) (map_same f p g b e)
map-one f p g (x ∷ a) r b e = cc (g x (and_left (p x) _ e), map-one f p g a r b (and_right (p x) _ e))

set-count : (m : List ℕ) (r : Record) (n : ℕ) (t : Table) → table_ok t ≡ true → (s : Stands (is_key m r.key_id) r t)
    → apply m (set_count r.key_id n) t ≡ s.before ++ (with_count r n ∷ s.after)
unfolding apply
set-count m r n t e s =
    let f : Record → Record = λ x. cond (is_key m r.key_id x) (with_count x n) x in
    let k : table_ok (s.before ++ (r ∷ s.after)) ≡ true = rw s.whole at e in
    let g : (x : Record) → not (is_key m r.key_id x) ≡ true → f x ≡ x = λ x o. rw (not-true (is_key m r.key_id x) o) in
    ap (map f) s.whole
    ∙ (map-one f _ g s.before r s.after (alone m r.key_id s.before r s.after k refl) ∙ rw s.passes)

module _ (c : Call) (t : Table) (sound : broken sign c.command ≡ false) (verified : c.lent.verdict ≡ 0) where
  signs : perform sign c t ≡ carried c t (sign_chosen c.command c.lent (picked c t))
  unfolding perform decide decide_sign judge
  signs = rw (sound, eq-eqb _ _ verified)

  pub none_chosen : picked c t ≡ [] → perform sign c t ≡ says sign 0x02 t
  unfolding sign_chosen only apply write fill bytes le
  none_chosen e = signs ∙ rw e

  -- the names of all, and no count moves
  pub several : 2 ≤ length (picked c t) → perform sign c t ≡ record { answer = response (name_response (picked c t)); left = t }
  unfolding apply
  several h = signs ∙ rw (several_listed c.command c.lent (picked c t) h)

  module _ (r : Record) (one : picked c t ≡ r ∷ []) where
    signs-one : perform sign c t ≡ carried c t (sign_one c.command c.lent r)
    unfolding sign_chosen
    signs-one = signs ∙ rw one

    -- the display before the count
    pub display-first : declined c ≡ true → perform sign c t ≡ says sign (display_status c.lent.display) t
    unfolding sign_one judge only apply write fill bytes le
    display-first e = signs-one ∙ rw e

    pub last-count : declined c ≡ false → r.count ≡ 4294967295 → perform sign c t ≡ says sign 0x01 t
    unfolding sign_one judge only apply write fill bytes le
    last-count e n = signs-one ∙ rw (e, eq-eqb _ _ n)

    pub counts : (n : ℕ) → table_ok t ≡ true → declined c ≡ false → suc r.count ≡ n → n ≤ 4294967295 → Signed c t r n
    unfolding sign_one judge
    counts n k e q h =
        let s = chosen-stands (mixed_of c) (fields_in key_handle c.command) t r [] one in
        record {
          place = s;
          counted = signs-one ∙ rw (e, ne_eqb r.count 4294967295 (omega arith), q, set-count (mixed_of c) r n t k s);
        }

    pub last-but-one : table_ok t ≡ true → declined c ≡ false → r.count ≡ 4294967294 → Signed c t r 4294967295
    last-but-one k e n = counts 4294967295 k e (omega arith) (omega arith)

-- ---- the bytes of a draft

-- with this mode, content hash and count
abbrev pub signed_bytes : Lent → List ℕ → List ℕ → ℕ → List ℕ → List ℕ → List ℕ
signed_bytes l challenge key mode hash count =
    bytes
    (tlv 0x3E04
    (bytes
    (tlv 0x2E0B l.aaid
    ∷ tlv 0x2E0E (le 2 l.version ++ (mode ∷ le 2 l.signature_algorithm))
    ∷ tlv 0x2E0F l.nonce
    ∷ tlv 0x2E0A challenge
    ∷ tlv 0x2E10 hash
    ∷ tlv 0x2E09 key
    ∷ tlv 0x2E0D count
    ∷ []))
    ∷ [])

module _ (s : List ℕ) (l : Lent) (r : Record) (n : ℕ) (count : suc r.count ≡ n) where
  pub without_content : field_in transaction_content s ≡ []
      → sign_draft s l r ≡ signed_bytes l (field_in challenge_hash s) r.key_id 0x01 [] (le 4 n)
  unfolding sign_draft has_content write fill
  without_content e = rw (empty-not_hashed s e, e, count)

  pub with_content : (b : ℕ) (bs : List ℕ) → field_in transaction_content s ≡ b ∷ bs
      → sign_draft s l r ≡ signed_bytes l (field_in challenge_hash s) r.key_id 0x02 (sha256 (b ∷ bs)) (le 4 n)
  unfolding sign_draft has_content write fill
  with_content b bs e = rw (content_hashed s b bs e, e, count)

-- ---- handles given twice, and handles of strangers

-- two Signs of one holder that are alike but for their handles
pub record Alike (c d : Call) : Type 0 where
  pub lent : c.lent ≡ d.lent
  pub sound : broken sign c.command ≡ broken sign d.command
  pub token : field_in access_token c.command ≡ field_in access_token d.command
  pub app-id : field_in app_id c.command ≡ field_in app_id d.command
  pub content : field_in transaction_content c.command ≡ field_in transaction_content d.command
  pub challenge : field_in challenge_hash c.command ≡ field_in challenge_hash d.command

module _ (c d : Call) (k : Alike c d) (t : Table) where
  sign-alike : (rs : Table) → sign_chosen c.command c.lent rs ≡ sign_chosen d.command c.lent rs
  unfolding sign_chosen sign_one sign_draft has_content
  sign-alike [] = refl
  sign-alike (r ∷ []) = rw (hash_alike c.command d.command k.content, k.content, k.challenge)
  sign-alike (r ∷ q ∷ rs) = refl

  pub same_choice : (hs gs : List (List ℕ)) → fields_in key_handle c.command ≡ hs → fields_in key_handle d.command ≡ gs
      → chosen hs (own (mixed_of c) t) ≡ chosen gs (own (mixed_of c) t) → perform sign c t ≡ perform sign d t
  unfolding perform decide decide_sign
  same_choice hs gs e f p =
      rw (← k.lent, k.sound, sign-alike _, ← mixed-alike c.command d.command k.token k.app-id, e, f, p)

  module _ (a : List (List ℕ)) (h : List ℕ) (b : List (List ℕ)) (e : fields_in key_handle c.command ≡ a ++ (h ∷ b)) where
    pub handle-twice : fields_in key_handle d.command ≡ a ++ b → among h (a ++ b) ≡ true → perform sign c t ≡ perform sign d t
    handle-twice f i = same_choice _ _ e f (repeated a h b (own (mixed_of c) t) i)

    -- neither is a KeyID of the caller's: that one is a stranger's, and the other nobody's, does not show
    pub strangers-handle : (g : List ℕ) → fields_in key_handle d.command ≡ a ++ (g ∷ b)
        → among h (key_ids (own (mixed_of c) t)) ≡ false → among g (key_ids (own (mixed_of c) t)) ≡ false
        → perform sign c t ≡ perform sign d t
    strangers-handle g f i j =
        same_choice _ _ e f (unknown a h b (own (mixed_of c) t) i ∙ sym (unknown a g b (own (mixed_of c) t) j))
