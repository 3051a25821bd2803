-- All that the firmware gets back from a call.
use Rattle.std.specs.Prelude.{ℕ, Bool, cond, List, [], length}
use Rattle.std.proofs.Math.Option.{some, get_or}
use Rattle.model.specs.Records.{encode}
use Rattle.model.specs.Commands.{Answer, response, draft, Result, refused, gave, Effect, bytes_of, outputs}
use Rattle.params.specs.declared.lent.Numbers.{Numbers}

-- the refusal number, or 0; the three numbers and the two outputs that it lent
pub record Returned : Type 0 where
  pub code : ℕ
  pub answer : ℕ
  pub response_length : ℕ
  pub table_length : ℕ
  pub response : List ℕ
  pub table : List ℕ

-- the refusal number, or 0, the three numbers and the two outputs, as one
abbrev pub gets : (code answer response_length table_length : ℕ) → (response table : List ℕ) → Returned
gets c a n m s t = record { code = c; answer = a; response_length = n; table_length = m; response = s; table = t }

-- 0 for a response, 1 for a draft
abbrev pub answer_number : Answer → ℕ
answer_number (response s) = 0
answer_number (draft s) = 1

-- 1 for a draft, 0 for a response
abbrev pub draft_number : Bool → ℕ
draft_number d = cond d 1 0

-- from a call with this result that was lent these; after a refusal not one of them has changed
unfoldable pub returned : Result Effect → Returned → Returned
returned (refused n) b = gets n b.answer b.response_length b.table_length b.response b.table
returned (gave e) b =
    let o = outputs (gave e) (record { response = b.response; table = some b.table }) in
    gets 0 (answer_number e.answer) (length (bytes_of e.answer)) (length (encode e.left)) o.response (get_or o.table [])

-- the lent numbers as the code holds them
abbrev pub numbers_of : (version signature_algorithm key_algorithm verdict display : ℕ) → Numbers
numbers_of v a k u d = record { version = v; signature_algorithm = a; key_algorithm = k; verdict = u; display = d }
