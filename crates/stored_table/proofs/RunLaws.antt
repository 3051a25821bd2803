-- A run of stored records: where they start, and the rules by the rows there.
-- Assumes nothing.
use mathlib.Core.Path.{◌≡◌, refl, ap}
use mathlib.Core.Bool.{true, ◌&&◌}
use mathlib.Core.List.{List, [], ◌∷◌, ◌++◌, map}
use Prim.Native.Nat.{ℕ, ◌+◌, ◌≤◌}
use native.Mathlib.Nat.{add-zero}
use native.Mathlib.Omega.{arith}
use lib.ListN.{length}
use lib.Dec.{leb}
use borrow.Author.Tests.{le-leb}
use Rattle.model.specs.Lists.{all, distinct}
use Rattle.model.specs.Tlv.{Tlv, bytes}
use Rattle.model.specs.Records as model
use Rattle.model.specs.Records.{max_records, max_own, record_ok, own, key_ids, table_ok, stored_as, encode}
use Rattle.model.proofs.Basics.{both, and_left, and_right}
use Rattle.model.proofs.Tlvs.{Held, length-bytes}
use Rattle.model.proofs.Rules.{record_rules}
use Rattle.model.proofs.StoredForm.{encode-stored, stored_rules}
use Rattle.tlv.specs.Rows.{times, each_few}
use Rattle.stored_table.specs.Stored.{beside_name, starts}
use Rattle.stored_table.specs.Index.{is_stored}
use Rattle.stored_table.proofs.IndexLaws.{length-one, times-own}

-- ---- where the records of a run start

-- where the TLVs of a run start that is written from a place on
abbrev pub tlv_starts : ℕ → List Tlv → List ℕ
tlv_starts at [] = []
tlv_starts at (c ∷ ts) = at ∷ tlv_starts (at + 4 + length c.value) ts

-- one TLV more
pub starts_more : (at : ℕ) (ts : List Tlv) (c : Tlv) → tlv_starts at (ts ++ (c ∷ [])) ≡ tlv_starts at ts ++ ((at + length (bytes ts)) ∷ [])
unfolding bytes
starts_more at [] c = rw add-zero
starts_more at (t ∷ ts) c =
    let e : at + 4 + length t.value + length (bytes ts) ≡ at + length (bytes (t ∷ ts)) = omega (arith, length-bytes t ts) in
    rw (starts_more (at + 4 + length t.value) ts c, e)

-- they are the places of the table's records
pub run-starts : (at : ℕ) (ts : List Tlv) → Held ts → all is_stored ts ≡ true → tlv_starts at ts ≡ starts at (map stored_as ts)
unfolding encode bytes starts
run-starts at [] b e = refl
run-starts at (c ∷ ts) b e =
    let r : model.Record = stored_as c in
    let o : all is_stored (c ∷ []) ≡ true = both (and_left (is_stored c) _ e) refl in
    let l : length (encode (r ∷ [])) ≡ length (bytes (c ∷ [])) = ap length (encode-stored (c ∷ []) (b.0, tt) o) in
    let ok : record_ok r ≡ true = and_left (record_ok r) _ (stored_rules (c ∷ []) (b.0, tt) o) in
    let next : ℕ = at + beside_name + length r.name in
    let k : at + 4 + length c.value ≡ next = omega (arith, length-bytes c [], length-one r [] (record_rules r ok)) in
    rw (k, run-starts next ts b.1 (and_right (is_stored c) _ e))

-- ---- the rules, by these rows

each-own : (n : ℕ) (t rs : model.Table)
    → all (λ c. leb (times c (map (λ r. r.mixed) t)) n) (map (λ r. r.mixed) rs) ≡ all (λ r. leb (length (own r.mixed t)) n) rs
each-own n t [] = refl
each-own n t (r ∷ rs) = rw (times-own r.mixed t, each-own n t rs)

pub few_decides : (t : model.Table) → length t ≤ max_records → all record_ok t ≡ true
    → table_ok t ≡ (each_few max_own (map (λ r. r.mixed) t) && distinct (key_ids t))
unfolding table_ok each_few
few_decides t h e = rw (le-leb (length t) max_records h, e, each-own max_own t t)
