-- Parts of the test whether bytes are a response.
use Rattle.std.specs.Prelude.{◌≡◌, ℕ, suc, ◌-◌, ◌≤◌, ◌<◌, Bool, not, ◌&&◌, List, map, length, take, leb, eqb, false, Option, Some, None}
use Rattle.model.specs.Lists.{any, select}
use Rattle.model.specs.Tlv.{tag_of, ok, kinds, response_tag, assertion_tag}
use Rattle.model.specs.Commands.{statuses, name_pairs}
use Rattle.model.specs.Reader.{Part, holds, cut, is_handle}
use Rattle.tlv.specs.Numbers.{num_at}
use Rattle.tlv.specs.Rows.{rows, Within}
use Rattle.layouts.specs.Places.{reads_at, after_field, in_group}
use Rattle.response_reader.specs.Met.{met}

-- every response starts with the header of its outer TLV, which ends with the stretch, and the header of a status; tag and status are open
unfoldable pub headed : List ℕ → Bool
headed s =
    leb 10 (length s) && eqb (num_at 2 s 2) (length s - 4) && eqb (num_at 2 s 4) (tag_of ok) && eqb (num_at 2 s 6) 2

-- a command that has this response tag can give this status alone
unfoldable pub alone : ℕ → ℕ → Bool
alone t n = any (λ k. eqb t (response_tag k) && any (eqb n) (statuses k)) kinds

-- a TLV with this tag ends with the stretch and starts with status OK, so that what follows the status stands from place 10 on
pub record Opened (t : ℕ) (s : List ℕ) : Type 0 where
  pub inside : 4 ≡ in_group t s 0
  pub past : 10 ≡ after_field ok s 4

-- and something follows
pub record Longer (t : ℕ) (s : List ℕ) : Type 0 where
  pub opened : Opened t s
  pub more : 10 < length s

-- the place of what the assertion holds
unfoldable pub in_assertion : ℕ → List ℕ → ℕ
in_assertion assertion s = in_group assertion s (in_group assertion_tag s 10)

-- the key handles among parts
abbrev pub handles : List Part → List Part
handles ps = select (λ p. is_handle p.tag) (select (λ p. not (holds p.tag)) ps)

-- the values of those that are met from a place on
unfoldable pub handles_from : List ℕ → ℕ → List (List ℕ)
handles_from s at = map (cut s) (handles (met s at))

-- from a place on there are n pairs and nothing else, with the KeyIDs at the first n of these places
pub record KeysOf (s : List ℕ) (from : ℕ) (places : List ℕ) (n : ℕ) : Type 0 where
  pub few : n ≤ 8
  pub number : (m : ℕ) → m < 8 → reads_at (name_pairs (suc m)) s from ≡ eqb (suc m) n
  pub within : Within 0 (take n places) s
  pub keys : handles_from s from ≡ rows 0 (take n places) s

-- a reader gave their number and left these places, or gave none where one to eight pairs do not fill the stretch
abbrev pub KeysAre : (s : List ℕ) (from : ℕ) (places : List ℕ) → Option ℕ → Type 0
KeysAre s from places None = (m : ℕ) → m < 8 → reads_at (name_pairs (suc m)) s from ≡ false
KeysAre s from places (Some n) = KeysOf s from places n
