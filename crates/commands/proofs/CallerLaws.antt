-- A command that does not look at its caller's records gives the same for whatever mixed token it is performed.
-- Assumes nothing.
use mathlib.Core.Path.{◌≡◌, refl, sym, ◌∙◌}
use mathlib.Core.Bool.{Bool, true, false, not, ◌&&◌, and-false}
use mathlib.Core.List.{List}
use Prim.Native.Nat.{ℕ}
use Rattle.model.specs.Tlv.{Kind, get_info, register, sign, deregister, open_settings, broken}
use Rattle.model.specs.Records.{Table}
use Rattle.model.specs.Commands.{Call, judge, only, apply, mixed_in, register_checks, decide_register, decide_sign, decide, perform_for, perform}
use Rattle.model.specs.Traces.{has_token}
use Rattle.model.proofs.Basics.{split, clash}
use Rattle.model.proofs.HashLaws.{performed_for}
use Rattle.commands.specs.Callers.{looks, mixed_for}

-- a command that breaks a rule does not
pub broken_blind : (k : Kind) (verdict : ℕ) → looks k true verdict ≡ false
broken_blind get_info v = refl
broken_blind register v = refl
broken_blind sign v = refl
broken_blind deregister v = refl
broken_blind open_settings v = refl

pub looks_unbroken : (k : Kind) (breaks : Bool) (verdict : ℕ) → looks k breaks verdict ≡ true → breaks ≡ false
looks_unbroken k false v e = refl
looks_unbroken k true v e = clash e (broken_blind k v)

-- a user who is not verified, where that is asked, of a command that breaks no rule
unverified : (m : List ℕ) (k : Kind) (c : Call) (t : Table) → broken k c.command ≡ false → (has_token k && true) ≡ true
    → looks k false c.lent.verdict ≡ false → perform_for m k c t ≡ perform k c t
unfolding perform decide decide_register register_checks decide_sign judge only apply
unverified m get_info c t b h e = clash h refl
unverified m register c t b h e = rw (b, e)
unverified m sign c t b h e = rw (b, e)
unverified m deregister c t b h e = clash refl e
unverified m open_settings c t b h e = clash h refl

performed_blind : (m : List ℕ) (k : Kind) (c : Call) (t : Table) → looks k (broken k c.command) c.lent.verdict ≡ false
    → perform_for m k c t ≡ perform k c t
performed_blind m k c t e =
    split (has_token k && not (broken k c.command))
    (λ h.
    split (broken k c.command) (λ b. clash (rw b at h) (and-false (has_token k))) (λ b. unverified m k c t b (rw b at h) (rw b at e)))
    (λ h. performed_for m k c h t ∙ sym (unfold perform in performed_for (mixed_in c.command) k c h t))

-- so it may be performed for zeros
pub performed_for_caller : (k : Kind) (c : Call) (t : Table) → perform_for (mixed_for k c.command c.lent.verdict) k c t ≡ perform k c t
performed_for_caller k c t =
    split (looks k (broken k c.command) c.lent.verdict) (λ e. unfold perform in rw e) (λ e. performed_blind _ k c t e)
