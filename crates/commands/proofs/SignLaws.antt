-- What Sign decides: on one chosen record, and by how many are chosen.
-- Assumes nothing.
use mathlib.Core.Path.{◌≡◌, refl, sym, ap, ◌∙◌}
use mathlib.Core.Bool.{Bool, true, false}
use mathlib.Core.List.{List, [], ◌∷◌}
use Prim.Native.Nat.{ℕ, ◌+◌, ◌≤◌, ◌<◌}
use native.Mathlib.Nat.{pos_of_ne-zero}
use native.Mathlib.Numerals.{add-one}
use native.Mathlib.Omega.{arith}
use lib.ListN.{length, get_or, take, length-map}
use lib.Seq.{length-take-le}
use Rattle.model.specs.Lists.{first}
use Rattle.model.specs.Tlv.{sign, key_handle, broken, fields_in}
use Rattle.model.specs.Records as records
use Rattle.model.specs.Records.{own, has_mixed}
use Rattle.model.specs.Commands.{Lent, refused, gave, judge, only, keep, user_checks, one_checks, has_content, sign_one, chosen, sign_chosen, decide_sign, decide}
use Rattle.model.proofs.Basics.{and_left, first_passes, passes}
use Rattle.model.proofs.EdgesSign.{several_listed}
use Rattle.tlv.specs.Rows.{rows}
use Rattle.params.specs.Lent.{lent_of}
use Rattle.params.specs.Parse.{HandlesPlaced, ParamsPlaced, ParamsRead, HandlesRead}
use Rattle.params.specs.declared.lent.Numbers.{Numbers}
use Rattle.params.specs.declared.parse.Params.{Params}
use Rattle.stored_table.specs.Stored.{Indexed, no_record, table_in}
use Rattle.stored_table.specs.Changes.{CanCount}
use Rattle.stored_table.specs.Chosen.{is_chosen, positions, ChosenAre, ChosenOf, records_at}
use Rattle.stored_table.specs.declared.left.Change.TheVariants.{Keep, SetCount}
use Rattle.stored_table.proofs.IndexLaws.{length-places}
use Rattle.stored_table.proofs.LookupLaws.{chosen_is, chosen-records, chosen_of, chosen_ok}
use Rattle.replies.specs.Replies.{answer_of, Quoted}
use Rattle.replies.specs.declared.reply.Shape.TheVariants.{Status, Names, Signed}
use Rattle.replies.proofs.ReplyLaws.{sign-draft}
use Rattle.commands.specs.Decisions.{decision, passed, Decides, DecidesOne}
use Rattle.commands.specs.declared.decision.Decision.{Decision}
use Rattle.commands.proofs.DecisionLaws.{judge_failed, judge_passed, plain-sound, Checked, fails, by_passing, quoted_placed}

-- ---- one record

module _ (content : Bool) (display count : ℕ) where
  pub one_fails : {i n : ℕ} (v : ℕ) → refused n ≡ judge (one_checks content display count) refused (gave v)
      → DecidesOne content display count i (decision (Status n) 0 Keep)
  unfolding answer_of only sign_one
  one_fails {n = n} v e =
      record {
        one =
            λ s l m t c chosen f g h q r. (
              rw (f, g, h) (sym (judge_failed (one_checks content display count) (only sign keep) _ v e)),
              omega arith,
              plain-sound (Status n) tt,
              tt,
            );
      }

  pub one_passes : {i n : ℕ} → gave n ≡ judge (one_checks content display count) refused (gave (count + 1))
      → DecidesOne content display count i (decision (Signed i n content) 0 (SetCount i n))
  unfolding answer_of sign_one
  one_passes {i} {n} e =
      let p = judge_passed (one_checks content display count) _ e in
      let is : gave n ≡ gave (count + 1) = e ∙ passes (one_checks content display count) refused _ p in
      let next : n ≡ count + 1 = cc in
      record {
        one =
            λ s l m t c chosen f g h q r. (
              rw (next, ← f, ← h, sign-draft s l (get_or t i no_record), add-one)
                  (sym (passes (one_checks (has_content s) l.display (get_or t i no_record).count) (only sign keep) _ (rw (f, g, h) p))),
              omega arith,
              plain-sound (Signed i n content) (refl, q, r.there),
              r,
            );
      }

-- ---- the records chosen

-- the first k of these are the numbers of the records of the holder m that a command s chooses, whose checks pass
pub record Chose (s : List ℕ) (n : Numbers) (m : List ℕ) (t : records.Table) (p : Params) (chosen : List ℕ) (k : ℕ) : Type 0 where
  pub signs : (aaid metadata key public_key nonce : List ℕ)
      → let l = lent_of aaid n metadata key public_key nonce in decide_sign s l (own m t) ≡ sign_chosen s l (records_at t (take k chosen))
  pub quoted : Quoted s p
  pub within : k ≤ length chosen
  pub number : length (records_at t (take k chosen)) ≡ k
  pub there : ChosenOf t (take k chosen)
  -- where there is one
  pub one : k ≡ 1 → records_at t (take k chosen) ≡ get_or t (get_or chosen 0 0) no_record ∷ []
  pub mine : k ≡ 1 → CanCount m t (get_or chosen 0 0)

first_of : (k : ℕ) (is : List ℕ) → k ≡ 1 → k ≤ length is → take k is ≡ get_or is 0 0 ∷ []
first_of k [] e h = absurd (omega arith)
first_of k (i ∷ is) e h = rw e

module _ {s : List ℕ} {p : Params} (n : Numbers) (q : ParamsRead sign s p) where
  sign_checked : (m key : List ℕ) (t : records.Table) → Checked sign s n m key t (user_checks p.broken n.verdict)
      (λ l. sign_chosen s l (chosen (fields_in key_handle s) (own m t)))
  unfolding decide decide_sign
  sign_checked m key t = record { by = λ a d k x. rw q.broken-is refl }

  pub sign_fails : {m key chosen : List ℕ} {t : records.Table} {i : ℕ} → refused i ≡ judge (user_checks p.broken n.verdict) refused passed
      → Decides sign s n m key t p chosen (decision (Status i) 0 Keep)
  sign_fails {m} {key} {t = t} e = fails (sign_checked m key t) e

  module _ (e : passed ≡ judge (user_checks p.broken n.verdict) refused passed) where
    sign-unbroken : broken sign s ≡ false
    sign-unbroken = sym q.broken-is ∙ (judge_passed (user_checks p.broken n.verdict) tt e).0

    pub sign-placed : ParamsPlaced s p
    sign-placed = q.unless_broken sign-unbroken

    pub handles_placed : {places : List ℕ} → HandlesRead sign s places p.handle_count → HandlesPlaced s places p.handle_count
    handles_placed u = u.unless_broken sign-unbroken

    chose_there : {m places : List ℕ} {t : records.Table} {cs : List ℕ} {k : ℕ} → HandlesRead sign s places p.handle_count → ChosenOf t (take k cs)
        → ChosenAre (positions (is_chosen m (rows 0 (take p.handle_count places) s)) 0 t) cs k → Chose s n m t p cs k
    unfolding decide
    chose_there {m} {places} {t} {cs} {k} u of h =
        let hs : List (List ℕ) = rows 0 (take p.handle_count places) s in
        let r : records.Record = get_or t (get_or cs 0 0) no_record in
        let are : records_at t (take k cs) ≡ chosen hs (own m t) = chosen-records m hs t h.are in
        let first-is : k ≡ 1 → take k cs ≡ get_or cs 0 0 ∷ [] = λ e. first_of k cs e h.within in
        let one : k ≡ 1 → records_at t (take k cs) ≡ r ∷ [] = λ e. ap (records_at t) (first-is e) in
        record {
          signs = λ a d key x y. by_passing (sign_checked m key t) e a d x y ∙ rw (are, (handles_placed u).values);
          quoted = quoted_placed sign sign-unbroken refl sign-placed;
          within = h.within;
          number = simp (length-map, length-take-le k cs h.within);
          there = of;
          one = one;
          mine =
              λ e.
              record {
                there = rw (first-is e) at of.each 0 (omega arith);
                mine = and_left (has_mixed m r) _ (first_passes (is_chosen m hs) t r (ap first (chosen_is m hs t ∙ sym are ∙ one e)));
              };
        }

    -- there are at most eight, by what is lent for them, or by the table's rules
    pub chose : {m places : List ℕ} {t : records.Table} {cs : List ℕ} {k : ℕ} → HandlesRead sign s places p.handle_count → length cs ≡ 8
        → ChosenAre (positions (is_chosen m (rows 0 (take p.handle_count places) s)) 0 t) cs k → Chose s n m t p cs k
    chose {m} {t = t} {cs} {k} u size h =
        chose_there u (chosen_of m _ t h.are (omega (arith, length-take-le k cs h.within, h.within))) h

    pub chose_ok : {m places : List ℕ} {t : records.Table} {cs : List ℕ} {k : ℕ} → HandlesRead sign s places p.handle_count → records.table_ok t ≡ true
        → ChosenAre (positions (is_chosen m (rows 0 (take p.handle_count places) s)) 0 t) cs k → Chose s n m t p cs k
    chose_ok {m} {t = t} u ok h = chose_there u (chosen_ok m _ t h.are ok) h

-- ---- by how many are chosen

-- none
chosen_none : (s : List ℕ) (l : Lent) (rs : records.Table) → length rs ≡ 0 → sign_chosen s l rs ≡ only sign keep 0x02
unfolding sign_chosen
chosen_none s l [] h = refl
chosen_none s l (r ∷ rs) h = absurd (omega arith)

-- the only one has a place
pub one_placed : {s : List ℕ} {n : Numbers} {m table places : List ℕ} {p : Params} {cs : List ℕ} {k : ℕ}
    → Chose s n m (table_in table) p cs k → k ≡ 1 → Indexed table places → get_or cs 0 0 < length places
one_placed w e x = omega (arith, (w.mine e).there, length-places x)

module _ {s : List ℕ} {n : Numbers} {m key : List ℕ} {t : records.Table} {p : Params} {cs : List ℕ} {k : ℕ} (w : Chose s n m t p cs k) where
  pub none_chosen : k ≡ 0 → Decides sign s n m key t p cs (decision (Status 0x02) 0 Keep)
  unfolding decide answer_of only
  none_chosen h =
      record {
        is = λ a d b x. sym (w.signs a d key b x ∙ chosen_none s _ (records_at t (take k cs)) (w.number ∙ h));
        within = omega arith;
        sound = plain-sound (Status 0x02) tt;
        can = tt;
      }

  pub one-chosen : {content : Bool} {count : ℕ} {d : Decision} → k ≡ 1 → has_content s ≡ content
      → (get_or t (get_or cs 0 0) no_record).count ≡ count → DecidesOne content n.display count (get_or cs 0 0) d
      → Decides sign s n m key t p cs d
  unfolding decide sign_chosen
  one-chosen h f g d =
      let v = d.one s (lent_of [] n [] key [] []) m t _ cs f refl g w.quoted (w.mine h) in
      record {
        is =
            λ a b q x. (d.one s (lent_of a n b key q x) m t _ cs f refl g w.quoted (w.mine h)).0
            ∙ sym (w.signs a b key q x ∙ rw (w.one h));
        within = v.1;
        sound = v.2;
        can = v.3;
      }

  pub several_chosen : (k ≡ 0 → ⊥) → (k ≡ 1 → ⊥) → Decides sign s n m key t p cs (decision Names k Keep)
  unfolding decide answer_of
  several_chosen g h =
      record {
        is = λ a d b x. sym (w.signs a d key b x ∙ several_listed s _ (records_at t (take k cs)) (omega (arith, w.number, pos_of_ne-zero g)));
        within = w.within;
        sound = record { named-there = w.there; own_shape = tt };
        can = tt;
      }
