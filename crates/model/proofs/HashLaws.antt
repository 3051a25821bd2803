-- What the token works out by hashing, and whose call it is by it (request A4). Of the hash nothing is used but that it gives 32 bytes.
-- Assumes nothing.
use mathlib.Core.Path.{◌≡◌, refl, sym, ◌∙◌}
use mathlib.Core.Bool.{Bool, true, false, not, cond, ◌&&◌}
use mathlib.Core.List.{List, [], ◌∷◌, ◌++◌, append-nil}
use mathlib.Core.Logic.{◌⊎◌, inl, inr}
use mathlib.Core.Option.{Option, none, some, get_or}
use Prim.Native.Nat.{ℕ}
use native.Mathlib.Omega.{arith}
use lib.ListN.{length}
use lib.Dec.{leb}
use borrow.Author.Tests.{not-true}
use Rattle.model.specs.Lists.{eq_bytes, among}
use Rattle.model.specs.Sha256.{sha256}
use Rattle.model.specs.Tlv.{Bytes, Kind, get_info, register, sign, deregister, open_settings, app_id, access_token, transaction_content, mixed_token, content_hash, fits, kind_of, broken, field_in}
use Rattle.model.specs.Records.{Table, max_records, own, key_ids}
use Rattle.model.specs.Commands.{Lent, Call, kind, mixed_of, apply, perform_for, perform, keep, judge, only, mixed_in, has_content, transaction_hash, decide_get_info, decide_register, register_checks, decide_sign, decide_deregister, decide_open_settings, decide}
use Rattle.model.specs.Traces.{commands, Form, has_token, is_holders, is_holder, is_of}
use Rattle.model.proofs.Basics.{split, clash, not-not, and_left, and_right, eq_bytes-eq, eq_bytes-refl}
use Rattle.model.proofs.LayoutLaws.{size_fits}
use Rattle.model.proofs.Sha256Laws.{sha256-length, sha256-bytes}

-- ---- the mixed token

module _ (s : List ℕ) where
  pub mixed_length : length (mixed_in s) ≡ 32
  unfolding mixed_in
  mixed_length = sha256-length _

  pub mixed-bytes : Bytes (mixed_in s)
  unfolding mixed_in
  mixed-bytes = sha256-bytes _

  -- it is one that a record can have
  pub mixed-fits : fits mixed_token (mixed_in s) ≡ true
  mixed-fits = size_fits mixed_token (mixed_in s) (omega (arith, mixed_length)) (omega (arith, mixed_length)) refl

  -- "A missing AppID adds no bytes"
  pub no_app_id : field_in app_id s ≡ [] → mixed_in s ≡ sha256 (field_in access_token s)
  unfolding mixed_in
  no_app_id e = rw (e, append-nil (field_in access_token s))

-- access token and AppID are all that it depends on
pub mixed-alike : (s u : List ℕ) → field_in access_token s ≡ field_in access_token u → field_in app_id s ≡ field_in app_id u → mixed_in s ≡ mixed_in u
unfolding mixed_in
mixed-alike s u k a = rw (k, a)

-- ---- the transaction hash

module _ (s : List ℕ) where
  -- an empty content is not hashed
  pub empty-not_hashed : field_in transaction_content s ≡ [] → transaction_hash s ≡ []
  unfolding transaction_hash has_content
  empty-not_hashed e = rw e

  pub content_hashed : (b : ℕ) (bs : List ℕ) → field_in transaction_content s ≡ b ∷ bs → transaction_hash s ≡ sha256 (b ∷ bs)
  unfolding transaction_hash has_content
  content_hashed b bs e = rw e

  -- it is one that signed data can have: 32 bytes with content, else none
  pub hash_fits : fits (content_hash (has_content s)) (transaction_hash s) ≡ true
  unfolding transaction_hash fits
  hash_fits = go (has_content s)
    where
      go : (content : Bool) → fits (content_hash content) (cond content (sha256 (field_in transaction_content s)) []) ≡ true
      go true = rw (sha256-length (field_in transaction_content s))
      go false = refl

-- the content is all that it depends on
pub hash_alike : (s u : List ℕ) → field_in transaction_content s ≡ field_in transaction_content u → transaction_hash s ≡ transaction_hash u
unfolding transaction_hash has_content
hash_alike s u e = rw e

-- ---- a call that is no holder's: no access token, or a rule broken

-- it is decided alike whatever the records, and changes nothing
pub record Strangers (k : Kind) (s : List ℕ) (l : Lent) (mine : Table) (taken filled : Bool) : Type 0 where
  pub blind : decide k s l mine taken filled ≡ decide k s l [] false false
  pub keeps : (decide k s l mine taken filled).change ≡ keep

pub strangers : (k : Kind) (s : List ℕ) → (has_token k && not (broken k s)) ≡ false → (l : Lent) (mine : Table) (taken filled : Bool)
    → Strangers k s l mine taken filled
unfolding decide decide_get_info decide_register register_checks decide_sign decide_deregister decide_open_settings judge only
strangers get_info s e l mine taken filled =
    record { blind = refl; keeps = split (broken get_info s) (λ b. rw b) (λ b. rw b) }
strangers register s e l mine taken filled = let b = not-not (broken register s) e in record { blind = rw b; keeps = rw b }
strangers sign s e l mine taken filled = let b = not-not (broken sign s) e in record { blind = rw b; keeps = rw b }
strangers deregister s e l mine taken filled = let b = not-not (broken deregister s) e in record { blind = rw b; keeps = rw b }
strangers open_settings s e l mine taken filled =
    record { blind = refl; keeps = split (broken open_settings s) (λ b. rw b) (λ b. rw b) }

-- whatever mixed token it is performed for
pub performed_for : (m : List ℕ) (k : Kind) (c : Call) → (has_token k && not (broken k c.command)) ≡ false → (t : Table)
    → perform_for m k c t ≡ record { answer = (decide k c.command c.lent [] false false).answer; left = t }
unfolding apply
performed_for m k c e t =
    let d = strangers k c.command e c.lent (own m t) (among c.lent.key_id (key_ids t)) (leb max_records (length t)) in
    rw (d.keeps, d.blind)

pub strangers_perform : (k : Kind) (c : Call) → (has_token k && not (broken k c.command)) ≡ false → (t : Table)
    → perform k c t ≡ record { answer = (decide k c.command c.lent [] false false).answer; left = t }
unfolding perform
strangers_perform k c e t = performed_for (mixed_of c) k c e t

-- ---- whose call it is, in words

-- m's, if it is anybody's
pub owned : (h : List ℕ) (b : Bool) (m : List ℕ) → is_holder h (cond b (some m) none) ≡ (b && eq_bytes m h)
owned h true m = refl
owned h false m = refl

pub record HoldersCall (h : List ℕ) (c : Call) : Type 0 where
  pub kind-is : (kind_of c.command ≡ some register) ⊎ ((kind_of c.command ≡ some sign) ⊎ (kind_of c.command ≡ some deregister))
  pub breaks_none : broken (kind c) c.command ≡ false
  pub hash : sha256 (field_in access_token c.command ++ field_in app_id c.command) ≡ h

has-token : (o : Option Kind) → has_token (get_or o get_info) ≡ true
    → (o ≡ some register) ⊎ ((o ≡ some sign) ⊎ (o ≡ some deregister))
has-token none e = clash e refl
has-token (some get_info) e = clash e refl
has-token (some register) e = inl refl
has-token (some sign) e = inr (inl refl)
has-token (some deregister) e = inr (inr refl)
has-token (some open_settings) e = clash e refl

token_kind : {o : Option Kind} → (o ≡ some register) ⊎ ((o ≡ some sign) ⊎ (o ≡ some deregister)) → has_token (get_or o get_info) ≡ true
token_kind (inl e) = rw e
token_kind (inr (inl e)) = rw e
token_kind (inr (inr e)) = rw e

pub holders_call : (h : List ℕ) (c : Call) (f : Form) → is_of h (record { act = commands c; form = f }) ≡ true → HoldersCall h c
unfolding is_holders mixed_in
holders_call h c f o =
    let e = sym (owned h (is_holders c) (mixed_of c)) ∙ o in
    let b = and_left (is_holders c) _ e in
    record {
      kind-is = has-token (kind_of c.command) (and_left (has_token (kind c)) _ b);
      breaks_none = not-true _ (and_right (has_token (kind c)) _ b);
      hash = eq_bytes-eq (mixed_of c) h (and_right (is_holders c) _ e);
    }

pub call_holders : (h : List ℕ) (c : Call) (f : Form) → HoldersCall h c → is_of h (record { act = commands c; form = f }) ≡ true
unfolding is_holders mixed_in
call_holders h c f o = rw (token_kind o.kind-is, o.breaks_none, o.hash) (eq_bytes-refl h)
