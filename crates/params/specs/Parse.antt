-- Where the fields of a command stand in it.
use Rattle.std.specs.Prelude.{◌≡◌, ℕ, ◌≤◌, true, false, cond, List, length, take, drop, get_or}
use Rattle.model.specs.Tlv as model
use Rattle.model.specs.Tlv.{max_command, fills, broken, fields_in, field_in}
use Rattle.tlv.specs.Heads.{part}
use Rattle.tlv.specs.Rows.{rows, Within}
use Rattle.tlv.specs.Spans.{no_span, Inside}
use Rattle.tlv.specs.declared.heads.Span.{Span}
use Rattle.params.specs.Slots.{enough}
use Rattle.params.specs.declared.parse.Params.{Params}

-- a part of the command is the field's value; where an empty value's part stands is open
pub record Placed (s : List ℕ) (f : model.Field) (p : Span) : Type 0 where
  pub inside : Inside s p
  pub value : part s p ≡ field_in f s

-- the command's key handles, each of 32 bytes, stand at the first n of some places, in their order
pub record HandlesPlaced (s places : List ℕ) (n : ℕ) : Type 0 where
  pub few : n ≤ length places
  pub inside : Within 0 (take n places) s
  pub values : rows 0 (take n places) s ≡ fields_in model.key_handle s

-- every parameter but those stands at its part of the command
pub record ParamsPlaced (s : List ℕ) (r : Params) : Type 0 where
  pub app-id : Placed s model.app_id r.app_id
  pub challenge-hash : Placed s model.challenge_hash r.challenge_hash
  pub username : Placed s model.username r.username
  pub attestation-type : Placed s model.attestation_type r.attestation_type
  pub access-token : Placed s model.access_token r.access_token
  pub key-id : Placed s model.key_id_or_none r.key_id
  pub transaction-content : Placed s model.transaction_content r.transaction_content

-- the answer to a command that breaks a rule
abbrev pub no_params : Params
no_params =
    record {
      broken = true;
      app_id = no_span;
      challenge_hash = no_span;
      username = no_span;
      attestation_type = no_span;
      access_token = no_span;
      key_id = no_span;
      transaction_content = no_span;
      handle_count = 0;
    }

-- where every parameter stands, by the first value of each slot, and how many key handles there are
abbrev pub picked : List Span → ℕ → Params
picked first n =
    let at : ℕ → Span = λ slot. get_or first slot no_span in
    record {
      broken = false;
      app_id = at 1;
      challenge_hash = at 2;
      username = at 3;
      attestation_type = at 4;
      access_token = at 7;
      key_id = at 6;
      transaction_content = at 5;
      handle_count = n;
    }

-- the answer to a command whose children were all taken
unfoldable pub params_at : (least times : List ℕ) → List Span → Params
params_at least times first = cond (enough least times) (picked first (get_or times 9 0)) no_params

-- what the reader gives for a command of this kind
pub record ParamsRead (k : model.Kind) (s : List ℕ) (r : Params) : Type 0 where
  pub broken-is : r.broken ≡ broken k s
  pub if_broken : broken k s ≡ true → r ≡ no_params
  pub unless_broken : broken k s ≡ false → ParamsPlaced s r

-- what it leaves in the places that are lent for the key handles, of which there are n
pub record HandlesRead (k : model.Kind) (s places : List ℕ) (n : ℕ) : Type 0 where
  pub unless_broken : broken k s ≡ false → HandlesPlaced s places n

-- what the reader of a child run gives and leaves: the answer to every command of this kind that is not too long and has this run after its header
pub record ChildrenRead (k : model.Kind) (run places : List ℕ) (r : Params) : Type 0 where
  pub answers : (s : List ℕ) → length s ≤ max_command → fills s ≡ true → run ≡ drop 4 s → ParamsRead k s r × HandlesRead k s places r.handle_count
