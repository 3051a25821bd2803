-- Register's first status: a rule broken, the verdict, the attestation type, a KeyID that is stored, then no place.
use mathlib.Core.Path.{◌≡◌, sym, ◌∙◌}
use mathlib.Core.Bool.{true, false, ◌||◌}
use lib.Dec.{leb}
use lib.ListN.{length}
use native.Mathlib.Omega.{arith}
use borrow.Author.Tests.{eq-eqb, le-leb, lt-leb}
use Rattle.model.specs.Lists.{among}
use Rattle.model.specs.Records.{own, key_ids}
use Rattle.model.specs.Commands.{judge, register_checks}
use Rattle.commands.proofs.JudgeLaws.{breaks_none, placed, type-inside, type_told, Admitted, admitted}
use Rattle.commands.proofs.register.judge_register.Goals as goal
use Rattle.commands.proofs.register.judge_register.Goals.{Else-is_stored, Else-not-is_supported, Joined-then-own_count-ge-MAX_OWN, then-own_count-ge-MAX_OWN-via-then-own_count-ge-MAX_OWN, then-own_count-ge-MAX_OWN-via-else-own_count-ge-MAX_OWN+then-len-ge-MAX_RECORDS}

pub get16-requires : goal.get16-requires
get16-requires c =
    let r = c.requires.params_read in
    type-inside _ _ (breaks_none r c.if-params.false) (placed r c.if-params.false).attestation-type

pub returns-then-not-is_supported : goal.returns-then-not-is_supported
unfolding judge register_checks
returns-then-not-is_supported c =
    let b = breaks_none c.requires.params_read c.if-params.false in
    let h = (placed c.requires.params_read c.if-params.false).attestation-type in
    simp (
      b,
      eq-eqb c.args.numbers.verdict 0 (omega arith),
      type_told _ _ b h _ c.get16.ensures c.is_supported.ensures ∙ c.if-not-is_supported.true,
    )

-- the first three checks pass
first_three : (c : Else-not-is_supported) → let a = c.args in Admitted a.command.now a.numbers.verdict
first_three c =
    let b = breaks_none c.requires.params_read c.if-params.false in
    let h = (placed c.requires.params_read c.if-params.false).attestation-type in
    record {
      unbroken = b;
      user = omega arith;
      supported = type_told _ _ b h _ c.get16.ensures c.is_supported.ensures ∙ c.if-not-is_supported.false;
    }

fresh : (c : Else-is_stored) → let a = c.args in among a.key_id.now (key_ids a.table.now) ≡ false
fresh c = sym c.is_stored.ensures ∙ c.if-is_stored.false

pub returns-then-is_stored : goal.returns-then-is_stored
returns-then-is_stored c =
    let p = first_three (goal.at.returns-then-is_stored c).Else-not-is_supported in
    sym (admitted _ _ _ _ _ _ _ p ∙ rw (sym c.is_stored.ensures ∙ c.if-is_stored.true))

-- no place: by the caller's records, or by how many records there are
full : (c : Joined-then-own_count-ge-MAX_OWN) → let a = c.args in
    (leb 8 (length (own a.mixed.now a.table.now)) || leb 32 (length a.table.now)) ≡ true
full c =
    elim c.then-own_count-ge-MAX_OWN.branch [
      | then-own_count-ge-MAX_OWN-via-then-own_count-ge-MAX_OWN w ↦ rw (le-leb _ _ (rw c.own_count.ensures at w.if-own_count-ge-MAX_OWN.true))
      | then-own_count-ge-MAX_OWN-via-else-own_count-ge-MAX_OWN+then-len-ge-MAX_RECORDS w ↦
          rw (
            lt-leb _ _ (rw c.own_count.ensures at w.if-own_count-ge-MAX_OWN.false),
            le-leb _ _ (rw w.len.ensures.0 at w.if-len-ge-MAX_RECORDS.true),
          )
    ]

pub returns-then-own_count-ge-MAX_OWN : goal.returns-then-own_count-ge-MAX_OWN
returns-then-own_count-ge-MAX_OWN c =
    let back = goal.at.returns-then-own_count-ge-MAX_OWN c in
    sym (admitted _ _ _ _ _ _ _ (first_three back.Else-not-is_supported)
    ∙ rw (fresh back.Else-is_stored, full back.Joined-then-own_count-ge-MAX_OWN))

pub returns : goal.returns
returns c =
    let back = goal.at.returns c in
    sym (admitted _ _ _ _ _ _ _ (first_three back.Else-not-is_supported)
    ∙ rw (
      fresh back.Else-is_stored,
      lt-leb _ _ (rw c.own_count.ensures at c.if-own_count-ge-MAX_OWN.false),
      lt-leb _ _ (rw c.len.ensures.0 at c.if-len-ge-MAX_RECORDS.false),
    ))
