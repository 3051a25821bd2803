-- The stored form as it is written: a record, a table record by record, and the form in which a call is handed a table.
-- Assumes nothing.
use mathlib.Core.Path.{◌≡◌, refl, sym, ap, ◌∙◌}
use mathlib.Core.Bool.{Bool, true, false, cond, ◌&&◌}
use mathlib.Core.List.{List, [], ◌∷◌, ◌++◌, map, map-append}
use mathlib.Core.Option.{none, some, bind}
use Prim.Native.Nat.{ℕ, ◌+◌, ◌≤◌, ◌<◌}
use native.Mathlib.Numerals.{add-one}
use native.Mathlib.Omega.{arith}
use lib.Dec.{leb}
use lib.ListN.{length, get_or, take, drop, length-append}
use lib.Seq.{take_all, take_at, take-suc}
use borrow.Author.Tests.{lt-ltb, le-ltb}
use Rattle.std.specs.Prelude.{Ok, Err}
use Rattle.model.specs.Lists.{all, given}
use Rattle.model.specs.Tlv.{tlvs_past}
use Rattle.model.specs.Records as model
use Rattle.model.specs.Records.{record_ok, max_records, max_stored, table_ok, encode, decode}
use Rattle.model.specs.Commands.{judge, table_of, over}
use Rattle.model.proofs.Basics.{split, impossible, and_right}
use Rattle.model.proofs.StoredForm.{decode_encoded}
use Rattle.tlv.specs.Writing.{Wrote}
use Rattle.tlv.specs.Firsts.{firsts}
use Rattle.tlv.proofs.FirstLaws.{firsts-take, length-firsts}
use Rattle.tlv.proofs.WriteLaws.{then, same, front, from_front, wrote_none}
use Rattle.fields.specs.Refusals.{ended, ends}
use Rattle.fields.specs.declared.refusals.Refusal.TheVariants.{ShortOutput, BrokenTable}
use Rattle.stored_table.specs.Stored.{record_of, beside_name}
use Rattle.stored_table.proofs.IndexLaws.{encode-append}
use Rattle.key_table.specs.Views.{view_record, view_table, no_value}
use Rattle.key_table.specs.Forms.{FormIs, storing}
use Rattle.key_table.specs.declared.records.Record.{Record}
use Rattle.key_table.specs.declared.records.Table.{Table}
use Rattle.key_table.proofs.ViewLaws.{view-take}

-- ---- a record

-- where its name is v
pub wrote_value : (r : Record) {v d d' : List ℕ} {at e : ℕ} → r.name_len ≤ length r.name → v ≡ take r.name_len r.name
    → Wrote d at (encode (record_of r.key_id r.mixed v r.count ∷ [])) (beside_name + length v) d' e
    → Wrote d at (encode (view_record r ∷ [])) (beside_name + r.name_len) d' e
wrote_value r {v} h e w =
    let f : v ≡ firsts 0 r.name_len r.name = e ∙ sym (firsts-take 0 r.name_len r.name h) in
    let l : length v ≡ r.name_len = ap length f ∙ length-firsts 0 r.name_len r.name in
    rw (← f, ← l) w

-- ---- a table, record by record

-- nothing written yet
pub stored_none : (d : List ℕ) (rs : List Record) → Wrote d 0 (encode (map view_record (take 0 rs))) 0 d 0
unfolding encode
stored_none d rs = wrote_none d 0 (omega arith)

module _ (rs : List Record) {d d₁ d₂ : List ℕ} {at n e : ℕ} (i : ℕ) (h : i < length rs) where
  -- one record more
  pub stored_more : Wrote d 0 (encode (map view_record (take i rs))) at d₁ at
      → Wrote d₁ at (encode (view_record (get_or rs i no_value) ∷ [])) n d₂ e
      → Wrote d 0 (encode (map view_record (take (i + 1) rs))) e d₂ e
  stored_more p q =
      let r : model.Record = view_record (get_or rs i no_value) in
      let next : map view_record (take (i + 1) rs) ≡ map view_record (take i rs) ++ (r ∷ []) =
      rw (add-one, take-suc rs i no_value h) (map-append view_record (take i rs) (get_or rs i no_value ∷ [])) in
      let w : encode (map view_record (take i rs)) ++ encode (r ∷ []) ≡ encode (map view_record (take (i + 1) rs)) =
      sym (rw next (encode-append (map view_record (take i rs)) (r ∷ []))) in
      from_front (same w refl (then p q))

-- all records
pub stored-all : (t : Table) {rs : List Record} {d d₁ : List ℕ} {at : ℕ} (i : ℕ) → t.len ≤ length t.records → rs ≡ take t.len t.records
    → length rs ≤ i → Wrote d 0 (encode (map view_record (take i rs))) at d₁ at → Wrote d 0 (encode (view_table t)) at d₁ at
stored-all t {rs} i fits e h p =
    same (ap encode (ap (map view_record) (take_all i rs h ∙ e) ∙ sym (view-take t fits))) refl p

-- ---- the form in which a call is handed a table

-- what was written from the front
front_part : {d xs d' : List ℕ} {n r : ℕ} → Wrote d 0 xs n d' r → (r ≤ length d') × (take r d' ≡ xs)
front_part {d} {xs} {d'} {n} {r} w =
    let e : r ≡ length xs = omega (arith, w) in
    (rw (front w).1 (simp length-append (omega arith)), rw (e, (front w).1) (take_at xs (drop n d) (length xs) refl))

module _ (t : model.Table) {b : Bool} (e : b ≡ (leb (length t) max_records && all record_ok t)) {d d' : List ℕ} {n r : ℕ} where
  -- one byte, which is the stored form of no table, for a table with too many records, or with one that breaks a rule
  pub form-broken : b ≡ false → Wrote d 0 (0 ∷ []) n d' r → FormIs t d' r
  unfolding table_ok table_of decode bind tlvs_past
  form-broken h w =
      let few : Bool = leb (length t) max_records in
      let k : table_ok t ≡ false = split few (λ f. let g : all record_ok t ≡ false = rw f at (sym e ∙ h) in rw (f, g)) (λ f. rw f) in
      record { within = (front_part w).0; view = rw ((front_part w).1, k); whole = λ ok. impossible (cc (k, ok)) }

  pub form-stored : b ≡ true → Wrote d 0 (encode t) n d' r → FormIs t d' r
  unfolding table_of
  form-stored h w =
      record {
        within = (front_part w).0;
        view = rw (front_part w).1 (decode_encoded t (and_right (leb (length t) max_records) _ (sym e ∙ h)));
        whole = λ ok. (front_part w).1;
      }

-- whether there is a table, by what a reader of it finds
read_test : {A : Type 0} (x : A) (b : Bool) → given (cond b (some x) none) ≡ b
read_test x true = refl
read_test x false = refl

table_there : {t : model.Table} {out : List ℕ} {n : ℕ} → FormIs t out n → given (decode (take n out)) ≡ table_ok t
unfolding table_of
table_there f = ap given f.view ∙ read_test _ _

pub form_ok : {t u : model.Table} {out : List ℕ} {n : ℕ} → FormIs t out n → decode (take n out) ≡ some u → table_ok t ≡ true
form_ok f e = sym (table_there f) ∙ ap given e

pub form-refused : {t : model.Table} {out : List ℕ} {n : ℕ} → FormIs t out n → decode (take n out) ≡ none → table_ok t ≡ false
form-refused f e = sym (table_there f) ∙ ap given e

-- ---- the stored form in an output

module _ (t : model.Table) (out : List ℕ) where
  pub stores_short : length out < max_stored → ended (Err ShortOutput) out ≡ ends (storing t (length out)) out
  unfolding ends storing judge
  stores_short h = rw (lt-ltb _ _ h)

  module _ (h : max_stored ≤ length out) where
    pub stores-broken : table_ok t ≡ false → ended (Err BrokenTable) out ≡ ends (storing t (length out)) out
    unfolding ends storing judge
    stores-broken e = rw (le-ltb _ _ h, e)

    pub stores-form : {out' : List ℕ} {n r : ℕ} → table_ok t ≡ true → Wrote out 0 (encode t) n out' r
        → ended (Ok r) out' ≡ ends (storing t (length out)) out
    unfolding ends storing judge
    stores-form {out'} {n} {r} e w =
        let k : r ≡ length (encode t) = omega (arith, w) in
        let o : out' ≡ over (encode t) out = (front w).1 ∙ rw w.size in
        rw (le-ltb _ _ h, e, k, o)
