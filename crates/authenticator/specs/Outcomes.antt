-- What a call says, and its two outputs after it, in the words of `model`.
use Rattle.std.specs.Prelude.{ℕ, Bool, true, false, List, length, Result, Ok, Err}
use Rattle.std.proofs.Math.Option.{some}
use Rattle.model.specs.Records.{encode}
use Rattle.model.specs.Commands as model
use Rattle.model.specs.Commands.{Answer, response, draft, refused, gave, Effect, bytes_of, Outputs, outputs}
use Rattle.fields.specs.Refusals.{number}
use Rattle.fields.specs.declared.refusals.Refusal.{Refusal}
use Rattle.authenticator.specs.declared.outcome.Gave.{Gave}

-- what is said of a call that is not refused: whether it wrote a draft or a response, its length, and that of the stored table left
pub record Told : Type 0 where
  pub draft : Bool
  pub response : ℕ
  pub table : ℕ

abbrev pub told : Bool → ℕ → ℕ → Told
told d n m = record { draft = d; response = n; table = m }

-- what the code says: one refusal, or that
abbrev pub said : Result Gave Refusal → model.Result Told
said (Err r) = refused (number r)
said (Ok g) = gave (told g.draft g.response_len g.table_len)

-- whether an answer of the model is a draft, and what is said of a call with this result of the model
abbrev pub is_draft : Answer → Bool
is_draft (response s) = false
is_draft (draft s) = true

abbrev pub told_of : model.Result Effect → model.Result Told
told_of (refused n) = refused n
told_of (gave e) = gave (told (is_draft e.answer) (length (bytes_of e.answer)) (length (encode e.left)))

-- the outputs of a call that writes a stored table
abbrev pub outputs_of : List ℕ → List ℕ → Outputs
outputs_of o t = record { response = o; table = some t }

-- what a call says, and its outputs after it
pub record Ended : Type 0 where
  pub result : model.Result Told
  pub after : Outputs

abbrev pub ended : Result Gave Refusal → List ℕ → List ℕ → Ended
ended r o t = record { result = said r; after = outputs_of o t }

-- what a call with this result of the model says and leaves, where these outputs were lent
unfoldable pub ends : model.Result Effect → Outputs → Ended
ends r o = record { result = told_of r; after = outputs r o }
