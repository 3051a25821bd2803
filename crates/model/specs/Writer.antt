-- Request A2 of document 02: "Supply a writer for all five, children in the order of 001's tables, key handles as given". Words in quotes are
-- the request's.
use Rattle.std.specs.Prelude.{ℕ, Bool, true, false, not, cond, ◌&&◌, List, [], ◌∷◌, ◌++◌, map, length, take, drop, leb, ltb, eqb}
use Rattle.std.proofs.Math.Option
use Rattle.std.proofs.Math.Option.{Option, none, some, get_or}
use Rattle.model.specs.Lists.{all, empty}
use Rattle.model.specs.Tlv.{le, Tlv, tlv, bytes, max_command, Kind, get_info, register, sign, deregister, open_settings, command_tag, fits, tag_of, Listed, times_allowed, fields_of, fields_in}
use Rattle.model.specs.Commands.{check, judge, Result, refused, gave}

-- ---- what is lent for a field says its values, in their order; none where it says nothing that could be written

abbrev pub Values : Type 0
Values = Option (List (List ℕ))

-- of a field that must be given
abbrev pub one : List ℕ → Values
one v = some (v ∷ [])

-- of one that may be left away, by a mark: 0 not given, 1 given. To be given and empty is not the same as not to be given
unfoldable pub marked : ℕ → List ℕ → Values
marked mark v = cond (eqb mark 0) (some []) (cond (eqb mark 1) (one v) none)

-- of one that is a number of 16 bits
unfoldable pub number : ℕ → Values
number n = cond (ltb n 65536) (one (le 2 n)) none

-- of several run together in one stretch, by the length of each; the lengths must add up to the stretch
unfoldable pub pieces : List ℕ → List ℕ → Values
pieces [] s = cond (empty s) (some []) none
pieces (n ∷ ns) s = cond (leb n (length s)) (Option.map (λ vs. take n s ∷ vs) (pieces ns (drop n s))) none

-- ---- what each of the five writers is lent

pub data Wanted : Type 0 where
  to_get_info : Wanted
  to_register : (app_id_mark : ℕ) (app_id challenge_hash username : List ℕ) (attestation_type : ℕ) (access_token : List ℕ) (user_verify_mark : ℕ)
      (user_verify_token : List ℕ)
      → Wanted
  to_sign : (app_id_mark : ℕ) (app_id challenge_hash : List ℕ) (content_mark : ℕ) (transaction_content access_token : List ℕ) (user_verify_mark : ℕ)
      (user_verify_token key_handles : List ℕ) (lengths : List ℕ)
      → Wanted
  to_deregister : (app_id_mark : ℕ) (app_id key_id access_token : List ℕ) → Wanted
  to_open_settings : Wanted

abbrev pub wanted_kind : Wanted → Kind
wanted_kind to_get_info = get_info
wanted_kind (to_register ma a c u t k mv v) = register
wanted_kind (to_sign ma a c mt t k mv v hs ns) = sign
wanted_kind (to_deregister ma a i k) = deregister
wanted_kind to_open_settings = open_settings

-- the values of each field that the command lists, in the order of its list, which is that of 001's table; the index is 0
abbrev pub wanted_values : Wanted → List Values
wanted_values to_get_info = []
wanted_values (to_register ma a c u t k mv v) = one (0 ∷ []) ∷ marked ma a ∷ one c ∷ one u ∷ number t ∷ one k ∷ marked mv v ∷ []
wanted_values (to_sign ma a c mt t k mv v hs ns) =
    one (0 ∷ []) ∷ marked ma a ∷ one c ∷ marked mt t ∷ one k ∷ marked mv v ∷ pieces ns hs ∷ []
wanted_values (to_deregister ma a i k) = one (0 ∷ []) ∷ marked ma a ∷ one i ∷ one k ∷ []
wanted_values to_open_settings = one (0 ∷ []) ∷ []

-- ---- the command that is written

-- a command of these children
abbrev pub command : Kind → List Tlv → List ℕ
command k ts = bytes (tlv (command_tag k) (bytes ts) ∷ [])

-- a child for each value of a field, and the children for all fields of a list
abbrev pub tlvs_for : Listed → Values → List Tlv
tlvs_for f vs = map (tlv (tag_of f.field)) (get_or vs [])

unfoldable pub children_for : List Listed → List Values → List Tlv
children_for [] vss = []
children_for (f ∷ fs) [] = []
children_for (f ∷ fs) (vs ∷ vss) = tlvs_for f vs ++ children_for fs vss

unfoldable pub command_of : Kind → List Values → List ℕ
command_of k vss = command k (children_for (fields_of k) vss)

-- ---- "6: a field or the number of key handles breaks document 01's rules as amended, or the command exceeds 8,192 bytes; checked first.
-- Refusal 1 here means an output shorter than the command and comes after 6"

-- the values obey their field's rule, and are as many as must and may be given
abbrev pub values_ok : Listed → Values → Bool
values_ok f none = false
values_ok f (some vs) = times_allowed f (length vs) && all (fits f.field) vs

unfoldable pub each_ok : List Listed → List Values → Bool
each_ok [] [] = true
each_ok [] (vs ∷ vss) = false
each_ok (f ∷ fs) [] = false
each_ok (f ∷ fs) (vs ∷ vss) = values_ok f vs && each_ok fs vss

unfoldable pub writable : Kind → List Values → Bool
writable k vss = each_ok (fields_of k) vss && leb (length (command_of k vss)) max_command

-- into an output of so many bytes
unfoldable pub write_values : Kind → List Values → ℕ → Result (List ℕ)
write_values k vss output =
    let s = command_of k vss in
    judge (check 6 (not (writable k vss)) ∷ check 1 (ltb output (length s)) ∷ []) refused (gave s)

abbrev pub write_command : Wanted → ℕ → Result (List ℕ)
write_command w output = write_values (wanted_kind w) (wanted_values w) output

-- ---- "any accepted command has one such form with the same effect"

-- the values of each field that it lists, in the order of the list
unfoldable pub values_in : Kind → List ℕ → List Values
values_in k s = map (λ f. some (fields_in f.field s)) (fields_of k)

-- the command of this kind with the same values: "skipped tags left away"
unfoldable pub form_of : Kind → List ℕ → List ℕ
form_of k s = command_of k (values_in k s)
