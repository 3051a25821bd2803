-- Calls with a command and lent results made of parts, and what such a call gives.
-- Assumes nothing.
use mathlib.Core.Path.{◌≡◌, refl}
use mathlib.Core.Bool.{true, false}
use mathlib.Core.List.{List, [], ◌∷◌, ◌++◌, append-nil}
use mathlib.Core.Option.{none, some}
use Prim.Native.Nat.{ℕ, zero, suc, ◌+◌, ◌≤◌, ◌<◌}
use native.Mathlib.Omega.{arith}
use lib.ListN.{length, take, drop, get_or, replicate}
use lib.Dec.{leb, lit<}
use borrow.Author.Tests.{le-leb, eq-eqb}
use Rattle.model.specs.Tlv.{Bytes, num, le, Tlv, tlv, bytes, header, Field, tag_of, index, challenge_hash, username, attestation_type, access_token, transaction_content, fits, Kind, get_info, register, sign, deregister, open_settings, command_tag, fields_of, kind_of, values_of, children_ok, children, broken, fields_in, max_command}
use Rattle.model.specs.Layouts.{Layout, end, field, group, size}
use Rattle.model.specs.Records.{Table, table_ok}
use Rattle.model.specs.Commands.{Lent, Call, value, gave, Effect, Answer, lent_ok, least_output, judge, table_of, refusals, perform, outcome}
use Rattle.model.specs.Writer.{command}
use Rattle.model.proofs.Basics.{both}
use Rattle.model.proofs.Numbers.{num-le}
use Rattle.model.proofs.Tlvs.{Sized, Held, length-bytes, tlvs-bytes, bytes_run}
use Rattle.model.proofs.LayoutLaws.{AllBytes, fit_all, fit_field, fit_group}

-- the stretches that a call is handed
abbrev pub record_parts : Table → List (List ℕ)
record_parts [] = []
record_parts (r ∷ t) = r.key_id ∷ r.mixed ∷ r.name ∷ record_parts t

abbrev pub stretches : Call → Table → List (List ℕ)
stretches c t =
    let l = c.lent in
    c.command ∷ l.aaid ∷ l.metadata ∷ l.key_id ∷ l.public_key ∷ l.nonce ∷ record_parts t

-- allowed inputs with which this command answers so: bytes, and the call is not refused
pub record Answered (k : Kind) (a : Answer) : Type 0 where
  pub call : Call
  pub table : Table
  pub inputs : AllBytes (stretches call table)
  pub effect : Effect
  pub kind : kind_of call.command ≡ some k
  pub gives : outcome call (value table) ≡ gave effect
  pub answers : effect.answer ≡ a

-- ---- calls made of parts

abbrev pub zeros : ℕ → List ℕ
zeros n = replicate n 0

abbrev pub byte : List ℕ
byte = zeros 1

-- an access token
abbrev pub token : List ℕ
token = zeros 32

abbrev pub child : Field → List ℕ → Tlv
child f v = tlv (tag_of f) v

abbrev pub calling : Kind → List Tlv → Lent → Call
calling k ts l = record { command = command k ts; lent = l; output = least_output; table_output = none }

abbrev pub lending : (aaid : List ℕ) (version signature_algorithm key_algorithm : ℕ) (metadata : List ℕ) (verdict display : ℕ)
    (key_id public_key nonce : List ℕ) → Lent
lending a v s k m verdict display i p n =
    record {
      aaid = a;
      version = v;
      signature_algorithm = s;
      key_algorithm = k;
      metadata = m;
      verdict = verdict;
      display = display;
      key_id = i;
      public_key = p;
      nonce = n;
    }

-- lent results of zeros, with this verdict and display result
abbrev pub lending_zeros : ℕ → ℕ → Lent
lending_zeros verdict display = lending (zeros 9) 0 0 0 (zeros 15) verdict display (zeros 32) byte (zeros 8)

-- the children of Register and of Sign: the challenge hash h, an attestation type, the transaction content x
abbrev pub registering : List ℕ → ℕ → List Tlv
registering h type =
    child index byte ∷ child challenge_hash h ∷ child username byte ∷ child attestation_type (le 2 type) ∷ child access_token token ∷ []

abbrev pub signing : (x h : List ℕ) → List Tlv
signing x h = child index byte ∷ child challenge_hash h ∷ child transaction_content x ∷ child access_token token ∷ []

-- ---- bytes

pub zero-bytes : (n : ℕ) → Bytes (zeros n)
zero-bytes zero = tt
zero-bytes (suc n) = (lit< tt, zero-bytes n)

-- ---- what they give

tag_small : (k : Kind) → command_tag k < 65536
tag_small get_info = lit< tt
tag_small register = lit< tt
tag_small sign = lit< tt
tag_small deregister = lit< tt
tag_small open_settings = lit< tt

kind-named : (k : Kind) (s : List ℕ) → leb 4 (length s) ≡ true → num (take 2 s) ≡ command_tag k → kind_of s ≡ some k
unfolding kind_of
kind-named get_info s e f = rw (e, f)
kind-named register s e f = rw (e, f)
kind-named sign s e f = rw (e, f)
kind-named deregister s e f = rw (e, f)
kind-named open_settings s e f = rw (e, f)

pub kind-command : (k : Kind) (ts : List Tlv) → kind_of (command k ts) ≡ some k
unfolding bytes le
kind-command k ts = kind-named k (command k ts) (le-leb 4 (length (command k ts)) (omega arith)) (num-le 2 (command_tag k) (tag_small k))

unfoldable pub calling_gives : (k : Kind) (ts : List Tlv) (l : Lent) (t : Table) (a : Answer) → Held ts
    → AllBytes (drop 1 (stretches (calling k ts l) t)) → lent_ok k l ≡ true → table_ok t ≡ true → (perform k (calling k ts l) t).answer ≡ a
    → Answered k a
unfolding outcome refusals table_of judge
calling_gives k ts l t a h b e f p =
    record {
      call = calling k ts l;
      table = t;
      inputs = (bytes_run (tlv (command_tag k) (bytes ts) ∷ []) (bytes_run ts h, tt), b);
      effect = perform k (calling k ts l) t;
      kind = kind-command k ts;
      gives = rw (f, kind-command k ts, e);
      answers = p;
    }

-- the bytes that a run takes
abbrev pub total : List Tlv → ℕ
total [] = 0
total (t ∷ ts) = 4 + length t.value + total ts

length_total : (ts : List Tlv) → length (bytes ts) ≡ total ts
unfolding bytes
length_total [] = refl
length_total (t ∷ ts) = rw (length-bytes, length_total ts)

pub length-command : (k : Kind) (ts : List Tlv) → length (command k ts) ≡ 4 + total ts
length-command k ts = simp (length_total) (omega arith)

module _ (k : Kind) (ts : List Tlv) (z : Sized ts) (m : 4 + total ts ≤ max_command) where
  pub children-command : children (command k ts) ≡ some ts
  unfolding children bytes le
  children-command =
      let n : num (le 2 (length (bytes ts))) ≡ length (bytes ts) = num-le 2 (length (bytes ts)) (omega (arith, length_total ts)) in
      let e : 4 + length (bytes ts) ≡ length (header (command_tag k) (length (bytes ts)) ++ bytes ts) = omega arith in
      rw (append-nil (bytes ts), n, eq-eqb _ _ e, tlvs-bytes ts z)

  pub not-broken : children_ok (fields_of k) ts ≡ true → broken k (command k ts) ≡ false
  unfolding broken
  not-broken e =
      let n : length (command k ts) ≤ max_command = rw (length-command k ts) m in
      rw (le-leb _ _ n, children-command, e)

  pub fields-command : (f : Field) → fields_in f (command k ts) ≡ values_of f ts
  unfolding fields_in
  fields-command f = rw children-command

-- ---- the first elements of a list that is long enough

module _ {A : Type 0} where
  abbrev pub Curried : ℕ → (List A → Type 0) → Type 0
  Curried zero P = (xs : List A) → P xs
  Curried (suc n) P = (x : A) → Curried n (λ xs. P (x ∷ xs))

  pub taken : (n : ℕ) (P : List A → Type 0) → Curried n P → (xs : List A) → n ≤ length xs → P xs
  taken zero P f xs e = f xs
  taken (suc n) P f [] e = absurd (omega arith)
  taken (suc n) P f (x ∷ xs) e = taken n (λ xs. P (x ∷ xs)) (f x) xs (omega arith)

-- ---- values that fit a layout, field by field

abbrev pub Fit : Layout → List (List ℕ) → Type 0
Fit end vs = Unit {0}
Fit (field f l) vs = (fits f (get_or vs 0 []) ≡ true) × Fit l (drop 1 vs)
Fit (group t inner l) vs = Fit inner vs × Fit l (drop (size inner) vs)

pub fit_each : (l : Layout) (vs : List (List ℕ)) → fit_all l vs ≡ true → Fit l vs
fit_each end vs e = tt
fit_each (field f l) vs e = let w = fit_field f l vs e in (w.0, fit_each l (drop 1 vs) w.1)
fit_each (group t inner l) vs e =
    let w = fit_group t inner l vs e in
    (fit_each inner vs w.0, fit_each l (drop (size inner) vs) w.1)

pub all_fit : (l : Layout) (vs : List (List ℕ)) → Fit l vs → fit_all l vs ≡ true
unfolding fit_all
all_fit end vs f = refl
all_fit (field g l) vs f = both f.0 (all_fit l (drop 1 vs) f.1)
all_fit (group g inner l) vs f = both (all_fit inner vs f.0) (all_fit l (drop (size inner) vs) f.1)
