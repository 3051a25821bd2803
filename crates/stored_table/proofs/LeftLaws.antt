-- The stored form of the table that a change leaves: a record as it is written, a record more, another count, records less.
-- Assumes nothing.
use mathlib.Core.Path.{◌≡◌, refl, sym, ap, ◌∙◌}
use mathlib.Core.Bool.{Bool, true, false}
use mathlib.Core.List.{List, [], ◌∷◌, ◌++◌, append_assoc}
use Prim.Native.Nat.{ℕ, suc, ◌+◌, ◌-◌, ◌≤◌, ◌<◌}
use native.Mathlib.Numerals.{add-one}
use native.Mathlib.Omega.{arith}
use lib.ListN.{length, get_or, take, drop, set, length-append, length-drop, take-append-drop, drop_of_length-le}
use lib.Seq.{length-take-le, drop-cons, drop-drop, take-suc, take-add, take_all, take_at, drop_at, take-append-le, drop-append-le, set_split, split_at}
use Rattle.model.specs.Lists.{select}
use Rattle.model.specs.Tlv.{le, tlv, bytes, header, pair_tag}
use Rattle.model.specs.Records as model
use Rattle.model.specs.Records.{table_ok, encode, max_stored}
use Rattle.model.specs.Commands.{apply, add, with_count}
use Rattle.model.proofs.Basics.{split, select-append}
use Rattle.model.proofs.Numbers.{length-le}
use Rattle.model.proofs.Rules.{obeys_rules, tests}
use Rattle.model.proofs.StoredForm.{length-records}
use Rattle.tlv.specs.Writing.{Wrote}
use Rattle.tlv.proofs.WriteLaws.{then, then_run, then_value, same, front, from_front, wrote_none}
use Rattle.stored_table.specs.Stored.{beside_name, count_at, record_of, no_record, record_at, table_in, Indexed}
use Rattle.stored_table.specs.Changes.{goes, removal, staying_of, stay_first}
use Rattle.stored_table.proofs.IndexLaws.{inside, up_to, encode_one, encode-append, encode-count, length-up_to, record-at, numbered, place_is, length-places, stored_at}
use Rattle.stored_table.proofs.ChangeLaws.{stays, removal_selects}

-- ---- a record

module _ (k m v : List ℕ) (n : ℕ) {d d₁ d₂ d₃ d₄ d₅ : List ℕ} {at a₁ a₂ a₃ a₄ a₅ : ℕ} where
  -- a header, and the four fields one after the other
  pub wrote-record : length k ≡ 32 → length m ≡ 32
      → Wrote d at (header pair_tag (beside_name - 4 + length v)) 4 d₁ a₁
      → Wrote d₁ a₁ (bytes (tlv 0x2E09 k ∷ [])) (4 + length k) d₂ a₂
      → Wrote d₂ a₂ (bytes (tlv 0x2805 m ∷ [])) (4 + length m) d₃ a₃
      → Wrote d₃ a₃ (bytes (tlv 0x2806 v ∷ [])) (4 + length v) d₄ a₄
      → Wrote d₄ a₄ (bytes (tlv 0x2E0D (le 4 n) ∷ [])) 8 d₅ a₅
      → Wrote d at (encode (record_of k m v n ∷ [])) (beside_name + length v) d₅ a₅
  wrote-record lk lm p pk pm pv pn =
      let r : model.Record = record_of k m v n in
      let q : Wrote d₁ a₁ (bytes (inside r)) (beside_name - 4 + length v) d₅ a₅ =
      same refl (omega arith) (then_run _ _ pk (then_run _ _ pm (then_run _ _ pv pn))) in
      same (encode_one r) (omega arith) (then_value pair_tag p q)

-- ---- a record more

module _ {table : List ℕ} (t : model.Table) (whole : encode t ≡ table) where
  -- one more finds room
  pub room-more : table_ok t ≡ true → length t < 32 → length table + (beside_name + 128) ≤ max_stored
  room-more ok h = omega (arith, ap length whole, length-records t (tests t ok).each)

  pub wrote_added : (k m v : List ℕ) {d d₁ d₂ : List ℕ} {n a₁ a₂ : ℕ}
      → Wrote d 0 table (length table) d₁ a₁
      → Wrote d₁ a₁ (encode (record_of k m v 0 ∷ [])) n d₂ a₂
      → Wrote d 0 (encode (apply m (add k v) t)) a₂ d₂ a₂
  unfolding apply
  wrote_added k m v p q =
      let r : model.Record = record_of k m v 0 in
      let w : table ++ encode (r ∷ []) ≡ encode (t ++ (r ∷ [])) = rw (← whole) (sym (encode-append t (r ∷ []))) in
      from_front (same w refl (then p q))

-- ---- another count

-- a write at the front, and one inside it
wrote-over : {d d₁ d₂ xs ys : List ℕ} {place n m r r₂ : ℕ} → Wrote d 0 xs n d₁ r → Wrote d₁ place ys m d₂ r₂
    → place + m ≤ length xs → Wrote d 0 (take place xs ++ (ys ++ drop (place + m) xs)) n d₂ r
wrote-over {d} {d₁} {d₂} {xs} {ys} {place} {n} {m} p q h =
    let rest : List ℕ = drop n d in
    let zs : List ℕ = take place xs ++ (ys ++ drop (place + m) xs) in
    let l : length zs ≡ n =
    simp (length-append, length-drop) (omega (arith, p.size, q.size, length-take-le place xs (omega arith))) in
    let f : take place (xs ++ rest) ≡ take place xs = take-append-le place xs rest (omega arith) in
    let g : drop (place + m) (xs ++ rest) ≡ drop (place + m) xs ++ rest = drop-append-le (place + m) xs rest h in
    let b : d₂ ≡ zs ++ rest = q.bytes ∙ rw (q.size, (front p).1, f, g) (simp append_assoc) in
    let z : 0 + length zs ≡ n = omega (arith, l) in
    record { size = l; room = p.room; next = p.next; bytes = b ∙ rw z }

module _ {table places : List ℕ} (x : Indexed table places) (i : ℕ) (h : i < length places) where
  abbrev t : model.Table
  t = table_in table

  abbrev old : model.Record
  old = get_or t i no_record

  -- the bytes up to its counter, and those behind
  abbrev ahead : List ℕ
  ahead = encode (take i t) ++ up_to old

  abbrev behind : List ℕ
  behind = encode (drop (suc i) t)

  around : (n : ℕ) → encode (take i t ++ (with_count old n ∷ drop (suc i) t)) ≡ ahead ++ (le 4 n ++ behind)
  around n = encode-append (take i t) _ ∙ rw (encode-count old n (drop (suc i) t)) (simp append_assoc)

  as-stored : table ≡ ahead ++ (le 4 old.count ++ behind)
  as-stored = sym x.whole ∙ ap encode (split_at t i no_record (numbered x i h)) ∙ around old.count

  length_ahead : length ahead ≡ count_at table (get_or places i 0)
  length_ahead =
      let l = length-up_to old ((obeys_rules t x.ok).each i (numbered x i h)) in
      simp length-append (omega (arith, l, place_is x i h, (record-at x i h).size))

  -- the table, and a count over the old one
  pub wrote_counted : {d d₁ d₂ : List ℕ} {place n r r₂ : ℕ} (count : ℕ) → place ≡ count_at table (get_or places i 0)
      → Wrote d 0 table n d₁ r
      → Wrote d₁ place (le 4 count) 4 d₂ r₂
      → Wrote d 0 (encode (set (table_in table) i (with_count (get_or (table_in table) i no_record) count))) r d₂ r
  wrote_counted {place = place} count e p q =
      let l : length ahead ≡ place = omega (arith, length_ahead) in
      let f : take place table ≡ ahead = ap (take place) as-stored ∙ take_at ahead _ place l in
      let c : List ℕ = le 4 old.count in
      let k : length (ahead ++ c) ≡ place + 4 = omega (arith, length-append ahead c, length-le 4 old.count) in
      let g : drop (place + 4) table ≡ behind =
      ap (drop (place + 4)) as-stored ∙ rw (← append_assoc) (drop_at (ahead ++ c) behind (place + 4) k) in
      let w : take place table ++ (le 4 count ++ drop (place + 4) table) ≡ encode (set t i (with_count old count)) =
      rw (f, g, set_split t i (with_count old count) (numbered x i h), around count) in
      from_front (same w refl (wrote-over p q (omega (arith, (record-at x i h).stands))))

-- ---- records less

-- what stands after the first i records
behind_is : (t : model.Table) (i k : ℕ) → take (length (encode (take k (drop i t)))) (drop (length (encode (take i t))) (encode t)) ≡ encode (take k (drop i t))
behind_is t i k =
    let b : List ℕ = encode (take i t) in
    let c : List ℕ = encode (take k (drop i t)) in
    let w : encode t ≡ b ++ encode (drop i t) = ap encode (sym (take-append-drop i t)) ∙ encode-append (take i t) (drop i t) in
    let v : encode (drop i t) ≡ c ++ encode (drop k (drop i t)) =
    ap encode (sym (take-append-drop k (drop i t))) ∙ encode-append (take k (drop i t)) (drop k (drop i t)) in
    rw (w, drop_at b (encode (drop i t)) (length b) refl, v) (take_at c _ (length c) refl)

module _ {table places : List ℕ} (x : Indexed table places) where
  -- where the table ends
  pub end_is : (j : ℕ) → length places ≤ j → length table ≡ length (encode (take j (table_in table)))
  end_is j h = ap length (sym x.whole) ∙ rw (take_all j (table_in table) (omega (arith, length-places x)))

  -- the records from i up to j, where they are stored
  module _ (i j : ℕ) (h : i ≤ j) where
    up-to : length (encode (take j (table_in table))) ≡ length (encode (take i (table_in table))) + length (encode (take (j - i) (drop i (table_in table))))
    up-to =
        let t = table_in table in
        let e : j ≡ i + (j - i) = omega arith in
        ap (λ n. length (encode (take n t))) e
        ∙ ap length (ap encode (take-add i (j - i) t) ∙ encode-append (take i t) (take (j - i) (drop i t)))
        ∙ length-append (encode (take i t)) (encode (take (j - i) (drop i t)))

    pub stored_is : let t = table_in table in
        take (length (encode (take j t)) - length (encode (take i t))) (drop (length (encode (take i t))) table) ≡ encode (take (j - i) (drop i t))
    stored_is =
        let t = table_in table in
        let b : ℕ = length (encode (take i t)) in
        let e : length (encode (take j t)) - b ≡ length (encode (take (j - i) (drop i t))) = omega (arith, up-to) in
        ap (λ n. take n (drop b table)) e
        ∙ ap (λ s. take (length (encode (take (j - i) (drop i t)))) (drop b s)) (sym x.whole) ∙ behind_is t i (j - i)

    pub stored-starts : length (encode (take i (table_in table))) ≤ length (encode (take j (table_in table)))
    stored-starts = omega (arith, up-to)

  -- none ends past the table
  pub stored_ends : (j : ℕ) → length (encode (take j (table_in table))) ≤ length table
  stored_ends j =
      let t = table_in table in
      let e : length table ≡ length (encode (take j t)) + length (encode (drop j t)) =
      ap length (sym x.whole ∙ ap encode (sym (take-append-drop j t)) ∙ encode-append (take j t) (drop j t))
      ∙ length-append (encode (take j t)) (encode (drop j t)) in
      omega arith

module _ (m key : List ℕ) where
  staying_append : (s t : model.Table) → staying_of m key (s ++ t) ≡ staying_of m key s ++ staying_of m key t
  unfolding staying_of
  staying_append s t = ap encode (select-append (stays m key) s t) ∙ encode-append (select (stays m key) s) (select (stays m key) t)

  staying_most : (t : model.Table) → length (staying_of m key t) ≤ length (encode t)
  unfolding staying_of encode
  staying_most [] = omega arith
  staying_most (r ∷ t) =
      let ih = staying_most t in
      split (goes m key r) (λ e. rw e (simp length-append (omega (arith, ih)))) (λ e. rw e (simp length-append (omega (arith, ih))))

  stay_most : (t : model.Table) → stay_first m key t ≤ length t
  unfolding stay_first
  stay_most [] = omega arith
  stay_most (r ∷ rs) = split (goes m key r) (λ e. rw e (omega arith)) (λ e. rw e (omega (arith, stay_most rs)))

  -- the next that goes is one of them, or none
  pub next-within : {table places : List ℕ} → Indexed table places → (i : ℕ) → i ≤ length places
      → i + stay_first m key (drop i (table_in table)) ≤ length places
  next-within {table} x i h = omega (arith, stay_most (drop i (table_in table)), length-drop i (table_in table), length-places x)

  -- of the records from j on the first goes, or stays
  module _ {table places : List ℕ} (x : Indexed table places) {t : model.Table} (v : table_in table ≡ t) (j : ℕ) (h : j < length t) {g : Bool}
      (e : g ≡ goes m key (record_at table (get_or places j 0))) where
    from-here : drop j t ≡ record_at table (get_or places j 0) ∷ drop (suc j) t
    from-here = drop-cons t j no_record h ∙ rw (stored_at x v j h)

    pub goes-here : g ≡ true → stay_first m key (drop j t) ≡ 0
    unfolding stay_first
    goes-here f = rw (from-here, ← e, f)

    pub stays_here : g ≡ false → stay_first m key (drop j t) ≡ suc (stay_first m key (drop (j + 1) t))
    unfolding stay_first
    stays_here f = rw (from-here, ← e, f, add-one)

  -- none is left
  pub none_here : (t : model.Table) (j : ℕ) → length t ≤ j → stay_first m key (drop j t) ≡ 0
  unfolding stay_first
  none_here t j h = rw (drop_of_length-le t {i = j} h)

-- ---- a walk over the records of a stored table, in which those that stay are written run by run

-- what stays of the first i records is written, but for the run that stands from a place on
pub record Removing (m key table d : List ℕ) (i from : ℕ) (d₁ : List ℕ) (e : ℕ) : Type 0 where
  pub written : List ℕ
  pub wrote : Wrote d 0 written e d₁ e
  pub within : from ≤ length (encode (take i (table_in table)))
  pub stay : staying_of m key (take i (table_in table)) ≡ written ++ take (length (encode (take i (table_in table))) - from) (drop from table)

module _ (m key : List ℕ) {table places : List ℕ} (x : Indexed table places) where
  pub removing_none : (d : List ℕ) → Removing m key table d 0 0 d 0
  unfolding staying_of encode
  removing_none d = record { written = []; wrote = wrote_none d 0 (omega arith); within = omega arith; stay = refl }

  module _ {d d₁ : List ℕ} {i from e : ℕ} (p : Removing m key table d i from d₁ e) where
    -- the run and what is written take no more bytes than the table
    pub removing-room : {n : ℕ} → n ≡ length (encode (take i (table_in table))) → e + length (take (n - from) (drop from table)) ≤ length table
    removing-room {n} h =
        let t = table_in table in
        let run : List ℕ = take (length (encode (take i t)) - from) (drop from table) in
        rw h (omega (arith, p.wrote.size, ap length p.stay, length-append p.written run, staying_most m key (take i t), stored_ends x i))

    -- the run was written
    removing-put : {n : ℕ} {d₂ : List ℕ} {e₂ : ℕ} → Wrote d₁ e (take (length (encode (take i (table_in table))) - from) (drop from table)) n d₂ e₂
        → Wrote d 0 (staying_of m key (take i (table_in table))) e₂ d₂ e₂
    removing-put q = from_front (same (sym p.stay) refl (then p.wrote q))

    module _ (h : i < length places) {g : Bool} (f : g ≡ goes m key (record_at table (get_or places i 0))) where
      abbrev r : model.Record
      r = record_at table (get_or places i 0)

      one_more : staying_of m key (take (i + 1) (table_in table)) ≡ staying_of m key (take i (table_in table)) ++ staying_of m key (r ∷ [])
      one_more =
          let t = table_in table in
          let o : get_or t i no_record ≡ r = sym (record-at x i h).is in
          rw (add-one, take-suc t i no_record (numbered x i h), o, staying_append m key (take i t) (r ∷ []))

      -- record i stays, and is one more of the run
      pub removing-stays : g ≡ false → Removing m key table d (i + 1) from d₁ e
      unfolding staying_of
      removing-stays k =
          let t = table_in table in
          let b : ℕ = length (encode (take i t)) in
          let c : ℕ = length (encode (take (i + 1) t)) in
          let l : b ≤ c = stored-starts x i (i + 1) (omega arith) in
          let one : i + 1 - i ≡ 1 = omega arith in
          let o : get_or t i no_record ≡ r = sym (record-at x i h).is in
          let its : take (c - b) (drop b table) ≡ staying_of m key (r ∷ []) =
          stored_is x i (i + 1) (omega arith) ∙ rw (one, drop-cons t i no_record (numbered x i h), o, ← f, k) in
          let sum : c - from ≡ (b - from) + (c - b) = omega (arith, p.within) in
          let at : from + (b - from) ≡ b = omega (arith, p.within) in
          let run : take (c - from) (drop from table) ≡ take (b - from) (drop from table) ++ take (c - b) (drop b table) =
          rw (sum, take-add (b - from) (c - b) (drop from table), drop-drop (b - from) from table, at) in
          record {
            written = p.written;
            wrote = p.wrote;
            within = omega (arith, p.within);
            stay = one_more ∙ rw (p.stay, ← its, run) (append_assoc p.written (take (b - from) (drop from table)) (take (c - b) (drop b table)));
          }

      -- record i goes, and the run before it is written
      pub removing-goes : g ≡ true → {n from₂ : ℕ} {d₂ : List ℕ} {e₂ : ℕ} → Wrote d₁ e (take (get_or places i 0 - from) (drop from table)) n d₂ e₂
          → from₂ ≡ length (encode (take (i + 1) (table_in table))) → Removing m key table d (i + 1) from₂ d₂ e₂
      unfolding staying_of encode
      removing-goes k {from₂ = from₂} q s =
          let t = table_in table in
          let none : staying_of m key (r ∷ []) ≡ [] = rw (← f, k) in
          let no : length (encode (take (i + 1) t)) - from₂ ≡ 0 = omega (arith, s) in
          record {
            written = staying_of m key (take i t);
            wrote = removing-put (rw (place_is x i h) at q);
            within = omega (arith, s);
            stay = one_more ∙ rw (none, no);
          }

    pub removing-all : length places ≤ i → {n : ℕ} {d₂ : List ℕ} {e₂ : ℕ} → Wrote d₁ e (take (length table - from) (drop from table)) n d₂ e₂
        → Wrote d 0 (encode (apply m (removal key) (table_in table))) e₂ d₂ e₂
    unfolding staying_of
    removing-all h q =
        let t = table_in table in
        let w = removing-put (rw (end_is x i h) at q) in
        rw (removal_selects m key t) (rw (take_all i t (omega (arith, length-places x))) at w)
