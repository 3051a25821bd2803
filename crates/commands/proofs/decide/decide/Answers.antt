-- Each kind's own function decides, and where a check fails it is a status alone.
use mathlib.Core.Path.{◌≡◌, subst}
use mathlib.Core.List.{List}
use Prim.Native.Nat.{ℕ}
use Rattle.std.proofs.Common.{rules}
use Rattle.params.specs.Kinds.{kind_is}
use Rattle.params.specs.Parse.{ParamsRead}
use Rattle.params.specs.declared.kinds.Kind.{Kind}
use Rattle.params.specs.declared.parse.Params.{Params}
use Rattle.commands.specs.Decisions.{decided}
use Rattle.commands.proofs.decide.decide.Goals as goal
use Rattle.commands.proofs.decide.decide.Goals.{in-GetInfo, in-Register, in-Sign, in-Deregister, in-OpenSettings}

read_as : {x y : Kind} {s : List ℕ} {p : Params} → x ≡ y → ParamsRead (kind_is x) s p → ParamsRead (kind_is y) s p
read_as {s = s} {p = p} e q = subst (λ (k : Kind). ParamsRead (kind_is k) s p) e q

pub returns : goal.returns
returns c =
    let told : c.unwrap_or_else.result ≡ decided c.match-kind.decided = search rules in
    let read = c.requires.params_read.0 in
    rw told (elim c.match-kind.branch [
      | in-GetInfo w ↦ rw (w.in-GetInfo.is, w.chosen-is, w.decided-is) (w.get_info-decided.ensures.always _ _ _ _ _ _ (read_as w.in-GetInfo.is read))
      | in-Register w ↦ rw (w.in-Register.is, w.chosen-is, w.decided-is) (w.register-decided.ensures _)
      | in-Sign w ↦ rw (w.in-Sign.is, w.chosen-is, w.decided-is) (w.sign-decided.ensures _)
      | in-Deregister w ↦ rw (w.in-Deregister.is, w.chosen-is, w.decided-is) (w.deregister-decided.ensures _ _ _)
      | in-OpenSettings w ↦
          rw (w.in-OpenSettings.is, w.chosen-is, w.decided-is) (w.open_settings-decided.ensures.always _ _ _ _ _ _ (read_as w.in-OpenSettings.is read))
    ])
