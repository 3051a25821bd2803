-- Whether a command looks at its caller's records, and the mixed token that it is performed for.
use Rattle.std.specs.Prelude.{ℕ, Bool, false, not, cond, ◌&&◌, List, eqb, replicate}
use Rattle.model.specs.Tlv.{Kind, get_info, register, sign, deregister, open_settings, broken}
use Rattle.model.specs.Commands.{mixed_in}

-- it has an access token, breaks no rule and, where that is asked, the user is verified: by the kind, whether a rule is broken, and the verdict
abbrev pub looks : Kind → Bool → ℕ → Bool
looks get_info breaks verdict = false
looks register breaks verdict = not breaks && eqb verdict 0
looks sign breaks verdict = not breaks && eqb verdict 0
looks deregister breaks verdict = not breaks
looks open_settings breaks verdict = false

-- the caller's where it does; else zeros, which nothing looks at
abbrev pub mixed_for : Kind → List ℕ → ℕ → List ℕ
mixed_for k s verdict = cond (looks k (broken k s) verdict) (mixed_in s) (replicate 32 0)
