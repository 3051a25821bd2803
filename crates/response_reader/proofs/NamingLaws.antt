-- The columns of a list of names, two rows for each pair.
-- Assumes nothing.
use mathlib.Core.Path.{◌≡◌, refl, sym, ap, ◌∙◌}
use mathlib.Core.Bool.{true}
use mathlib.Core.List.{List, [], ◌∷◌, ◌++◌, map, append_assoc, append-nil}
use Prim.Native.Nat.{ℕ, zero, suc, ◌+◌, ◌*◌, ◌≤◌, ◌<◌}
use native.Mathlib.Omega.{arith}
use lib.ListN.{length, take, set, length-append}
use lib.Seq.{take_all, length-take-le}
use lib.Dec.{leb}
use borrow.Author.Tests.{leb-true}
use Rattle.model.specs.Lists.{any}
use Rattle.model.specs.Tlv.{tag_of, username, key_handle}
use Rattle.model.specs.Layouts.{reads}
use Rattle.model.specs.Commands.{name_pairs, name_list}
use Rattle.model.specs.Reader.{Part, field_parts, list_lengths}
use Rattle.model.proofs.Basics.{both, up-to}
use Rattle.model.proofs.LayoutWritten.{all_member, any_found}
use Rattle.model.proofs.ResponseWitness.{pairs_plain}
use Rattle.tlv.specs.Numbers.{num_at, NumberAt}
use Rattle.tlv.specs.Firsts.{firsts}
use Rattle.response_reader.specs.Met.{part_at}
use Rattle.response_reader.specs.Readings.{Columns, column, columns, parts_of, Same}
use Rattle.response_reader.specs.declared.readings.Columns as code
use Rattle.response_reader.specs.Laid.{fields_from, Lies, status_row}
use Rattle.response_reader.proofs.LaidLaws.{fields_laid, lies, lies_before}

-- ---- a row more

pub same_again : {a b c : code.Columns} → Same a b → Same b c → Same a c
same_again p q = record { tags = q.tags ∙ p.tags; places = q.places ∙ p.places; lengths = q.lengths ∙ p.lengths }

module _ (f : Part → ℕ) where
  column-more : (m : ℕ) (ps : List Part) (p : Part) → length ps < m
      → set (firsts 0 m (map f ps)) (length ps) (f p) ≡ firsts 0 m (map f (ps ++ (p ∷ [])))
  unfolding firsts
  column-more zero ps p h = absurd (omega arith)
  column-more (suc m) [] p h = refl
  column-more (suc m) (q ∷ ps) p h = ap (λ (l : List ℕ). f q ∷ l) (column-more m ps p (omega arith))

  column_next : {c : List ℕ} {n : ℕ} (ps : List Part) (p : Part) → c ≡ column f ps → length ps ≡ n → n < 17
      → set c n (f p) ≡ column f (ps ++ (p ∷ []))
  column_next ps p e k h = rw (e, ← k) (column-more 17 ps p (omega arith))

-- fewer than 17 are all
short : (ps : List Part) (n : ℕ) → n ≡ length (take 17 ps) → n < 17 → length ps ≡ n
short ps n e h = up-to (length ps) 17 (λ k. sym (rw (take_all 17 ps k) at e)) (λ k. absurd (omega (arith, rw (length-take-le 17 ps (omega arith)) at e)))

pub row_next : {ts ls ss : List ℕ} {n : ℕ} (ps : List Part) (p : Part) → columns ts ls ss n ≡ parts_of ps → n < 17
    → columns (set ts n p.tag) (set ls n p.place) (set ss n p.size) (n + 1) ≡ parts_of (ps ++ (p ∷ []))
unfolding parts_of
row_next {n = n} ps p e h =
    let l : n ≡ length (take 17 ps) = ap (λ (c : Columns). c.len) e in
    let z : length ps ≡ n = short ps n l h in
    let m : length (take 17 (ps ++ (p ∷ []))) ≡ n + 1 =
    let y : length (ps ++ (p ∷ [])) ≡ n + 1 = simp length-append (omega arith) in rw (take_all 17 (ps ++ (p ∷ [])) (omega arith)) y in
    rw (
      column_next (λ x. x.tag) ps p (ap (λ (c : Columns). c.tags) e) z h,
      column_next (λ x. x.place) ps p (ap (λ (c : Columns). c.places) e) z h,
      column_next (λ x. x.size) ps p (ap (λ (c : Columns). c.lengths) e) z h,
      m,
    )

-- ---- the pairs from a place on

-- the fields of a stretch are those so far, of which there are len, and those of pairs that lie from a place up to the end
pub record Pairs (s : List ℕ) (so_far : List Part) (len at : ℕ) : Type 0 where
  pub left : ℕ
  pub whole : field_parts s ≡ so_far ++ fields_from (name_pairs left) s at
  pub lie : Lies (name_pairs left) s at (length s)
  pub few : len + 2 * left ≤ 17

-- what a turn reads and writes is there
pub record Turn (s : List ℕ) (len at : ℕ) : Type 0 where
  pub pair : at + 4 + 4 + num_at 2 s (at + 4 + 2) + 4 + 32 ≡ at + 4 + num_at 2 s (at + 2)
  pub ends : at + 4 + num_at 2 s (at + 2) ≤ length s
  pub room : len + 1 < 17

-- the two fields of a pair
abbrev name_at : ℕ → ℕ → Part
name_at at n = part_at (tag_of username) (at + 4 + 4) n

abbrev handle_at : ℕ → ℕ → Part
handle_at at n = part_at (tag_of key_handle) (at + 4 + 4 + n + 4) 32

module _ (s : List ℕ) (so_far : List Part) (len at : ℕ) where
  turn : (k : ℕ) → Lies (name_pairs k) s at (length s) → len + 2 * k ≤ 17 → at < length s → Turn s len at
  turn zero i f h = absurd (omega arith)
  turn (suc k) i f h = record { pair = i.0.1.1; ends = lies_before (name_pairs k) s _ _ i.1; room = omega arith }

  further : {n m : ℕ} (k : ℕ) → field_parts s ≡ so_far ++ fields_from (name_pairs k) s at → Lies (name_pairs k) s at (length s)
      → len + 2 * k ≤ 17 → at < length s → NumberAt 2 s (at + 4 + 2) n → NumberAt 2 s (at + 2) m
      → Pairs s (so_far ++ (name_at at n ∷ handle_at at n ∷ [])) (len + 2) (at + 4 + m)
  further zero e i f h a b = absurd (omega arith)
  further {n} {m} (suc k) e i f h a b =
      record {
        left = k;
        whole =
            rw (a.value, b.value)
            (e ∙ sym (append_assoc so_far (name_at at (num_at 2 s (at + 4 + 2)) ∷ handle_at at (num_at 2 s (at + 4 + 2)) ∷ []) _));
        lie = rw b.value i.1;
        few = omega arith;
      }

  last : (k : ℕ) → field_parts s ≡ so_far ++ fields_from (name_pairs k) s at → Lies (name_pairs k) s at (length s) → length s ≤ at
      → field_parts s ≡ so_far
  last zero e i h = e ∙ append-nil so_far
  last (suc k) e i h = absurd (omega (arith, lies_before (name_pairs k) s _ _ i.1))

-- ---- the loop over the pairs

-- the columns are those of the fields so far
pub record Naming (s : List ℕ) (c : Columns) (at : ℕ) : Type 0 where
  pub so_far : List Part
  pub pairs : Pairs s so_far c.len at
  pub rows : c ≡ parts_of so_far

pub naming_start : (s : List ℕ) {c : Columns} → any (λ n. reads (name_list n) s) list_lengths ≡ true → c ≡ parts_of (status_row ∷ []) → Naming s c 10
unfolding parts_of
naming_start s {c} e r =
    let (n, m, k) = any_found (λ n. reads (name_list n) s) list_lengths e in
    let l : n ≤ 8 = leb-true _ _ (all_member (λ n. leb n 8) m refl) in
    let i = lies (name_list n) s k in
    let z : 4 + num_at 2 s 2 ≡ length s = i.1 in
    let one : c.len ≡ 1 = ap (λ (x : Columns). x.len) r in
    record {
      so_far = status_row ∷ [];
      pairs =
          record {
            left = n;
            whole = fields_laid (name_list n) s k (both (pairs_plain n).0 refl) ∙ append-nil (status_row ∷ fields_from (name_pairs n) s 10);
            lie = rw z at i.0.1;
            few = omega arith;
          };
      rows = r;
    }

module _ {s : List ℕ} {c : Columns} {at : ℕ} (g : Naming s c at) where
  pub naming_turn : at < length s → Turn s c.len at
  naming_turn h = turn s g.so_far c.len at g.pairs.left g.pairs.lie g.pairs.few h

  pub naming_next : {n m : ℕ} {d : Columns} → at < length s → NumberAt 2 s (at + 4 + 2) n → NumberAt 2 s (at + 2) m → d.len ≡ c.len + 2
      → d ≡ parts_of (g.so_far ++ (name_at at n ∷ []) ++ (handle_at at n ∷ [])) → Naming s d (at + 4 + m)
  naming_next {n} h a b e r =
      record {
        so_far = g.so_far ++ (name_at at n ∷ handle_at at n ∷ []);
        pairs = rw e (further s g.so_far c.len at g.pairs.left g.pairs.whole g.pairs.lie g.pairs.few h a b);
        rows = r ∙ rw (append_assoc g.so_far (name_at at n ∷ []) (handle_at at n ∷ []));
      }

  pub naming_all : length s ≤ at → c ≡ parts_of (field_parts s)
  naming_all h = g.rows ∙ rw (last s g.so_far c.len at g.pairs.left g.pairs.whole g.pairs.lie h)
