-- What a reply says, as an answer of `model`; how long it is; and what a writer of it needs.
-- Assumes nothing.
use mathlib.Core.Path.{◌≡◌, refl, sym, ap, ◌∙◌}
use mathlib.Core.Bool.{Bool, true, false, cond}
use mathlib.Core.List.{List, append_assoc}
use Prim.Native.Nat.{ℕ, ◌+◌, ◌≤◌}
use native.Mathlib.Numerals.{add-one}
use native.Mathlib.Omega.{arith}
use lib.ListN.{length, length-append}
use Rattle.model.specs.Sha256.{sha256}
use Rattle.model.specs.Tlv.{le, bytes, Kind, get_info, register, sign, challenge_hash, transaction_content, field_in}
use Rattle.model.specs.Layouts.{fill, write}
use Rattle.model.specs.Records.{Record, Table, table_ok}
use Rattle.model.specs.Commands.{Lent, least_output, lent_ok, response, draft, bytes_of, info_response, name_response, register_draft, has_content, transaction_hash, sign_draft}
use Rattle.model.proofs.Sha256Laws.{sha256-length}
use Rattle.model.proofs.Rules.{obeys_rules}
use Rattle.model.proofs.LentLaws.{ProfileRules, RegisterRules, SignRules, lent_rules}
use Rattle.tlv.specs.Writing.{Wrote}
use Rattle.tlv.proofs.HeadLaws.{length_part}
use Rattle.params.specs.Lent.{numbers_in}
use Rattle.params.specs.declared.parse.Params.{Params}
use Rattle.stored_table.specs.Chosen.{records_at}
use Rattle.replies.specs.Writes.{info_written, krd, signed_draft, pairs_of}
use Rattle.replies.specs.Replies.{shape_answer, answer_of, is_draft, challenge_len, pairs_size, shape_size, reply_size, Quoted, SoundShape, Sound, ReadyShape, Ready, ShortShape, Short}
use Rattle.replies.specs.declared.reply.Shape.{Shape}
use Rattle.replies.specs.declared.reply.Shape.TheVariants.{Status, Info, Names, Registration, Signed}
use Rattle.replies.proofs.PairLaws.{sized, sized-most}

-- ---- which answer it is

module _ (k : Kind) (s : List ℕ) (l : Lent) (t : Table) where
  shape_draft : (named : Table) (x : Shape)
      → shape_answer k s l t named x
      ≡ cond (is_draft x) (draft (bytes_of (shape_answer k s l t named x))) (response (bytes_of (shape_answer k s l t named x)))
  shape_draft named (Status n) = refl
  shape_draft named Info = refl
  shape_draft named Names = refl
  shape_draft named Registration = refl
  shape_draft named (Signed i n content) = refl

  pub draft-is : (named : List ℕ) (x : Shape)
      → answer_of k s l t named x ≡ cond (is_draft x) (draft (bytes_of (answer_of k s l t named x))) (response (bytes_of (answer_of k s l t named x)))
  unfolding answer_of
  draft-is named x = shape_draft (records_at t named) x

-- the information and the drafts of the definition are those that are written
pub info-is : (l : Lent) → info_response l ≡ info_written l.aaid l.metadata
unfolding info_response info_written
info-is l = refl

pub register-draft : (s : List ℕ) (l : Lent)
    → register_draft s l ≡ krd l.aaid (numbers_in l) (field_in challenge_hash s) l.key_id l.public_key
unfolding register_draft krd
register-draft s l = simp append_assoc

pub sign-draft : (s : List ℕ) (l : Lent) (r : Record)
    → signed_draft (has_content s) l.aaid (numbers_in l) l.nonce (field_in challenge_hash s) (sha256 (field_in transaction_content s))
    r.key_id (r.count + 1)
    ≡ sign_draft s l r
unfolding signed_draft sign_draft transaction_hash
sign-draft s l r = rw add-one

-- ---- what a writer needs

-- what is lent has the right lengths for the command that it is lent to
module _ (k : Kind) (s : List ℕ) (l : Lent) (t : Table) (c : Params) (ok : lent_ok k l ≡ true) where
  shape_ready : (x : Shape) → SoundShape k s t c x → ReadyShape s l t c x
  shape_ready (Status n) h = tt
  shape_ready Info h =
      let p : ProfileRules l = lent_rules get_info l (rw h at ok) in
      (p.aaid, p.metadata)
  shape_ready Names h = tt
  shape_ready Registration h =
      let p : RegisterRules l = lent_rules register l (rw h.0 at ok) in
      record { aaid = p.profile.aaid; quoted = h.1; key-id = p.key-id; public-key = p.public_key-most }
  shape_ready (Signed i n content) h =
      let p : SignRules l = lent_rules sign l (rw h.0 at ok) in
      record { aaid = p.profile.aaid; nonce = p.nonce-most; quoted = h.1; there = h.2 }

pub ready : {k : Kind} {s : List ℕ} (l : Lent) {t : Table} {c : Params} {named : List ℕ} {x : Shape} → lent_ok k l ≡ true
    → Sound k s t c named x → Ready s l t c named x
ready {k} {s} l {t} {c} {x = x} ok h =
    record { named-there = h.named-there; ready_shape = shape_ready k s l t c ok x h.own_shape }

-- the challenge hash is as long as the part that it is
module _ {s : List ℕ} {p : Params} (h : Quoted s p) where
  challenge-size : length (field_in challenge_hash s) ≡ challenge_len p
  challenge-size = ap length (sym h.challenge.value) ∙ length_part h.challenge.inside

  challenge-short : challenge_len p ≤ 32
  challenge-short = omega (arith, h.short, length_part h.challenge.inside)

module _ (s : List ℕ) (l : Lent) (t : Table) (c : Params) where
  shape_short : (x : Shape) → ReadyShape s l t c x → ShortShape (challenge_len c) (length l.public_key) (length l.nonce) x
  shape_short (Status n) h = tt
  shape_short Info h = tt
  shape_short Names h = tt
  shape_short Registration h = (challenge-short h.quoted, h.public-key)
  shape_short (Signed i n content) h = (challenge-short h.quoted, h.nonce)

-- ---- how long it is

-- the transaction hash takes 36 bytes at most
pub hash_most : (content : Bool) → cond content 36 4 ≤ 36
hash_most true = omega arith
hash_most false = omega arith

shape_most : (c p n : ℕ) (named : Table) (x : Shape) → pairs_size named ≤ 1376 → ShortShape c p n x → shape_size c p n named x ≤ least_output
shape_most c p n named (Status m) few h = omega arith
shape_most c p n named Info few h = omega arith
shape_most c p n named Names few h = omega arith
shape_most c p n named Registration few h = omega (arith, h)
shape_most c p n named (Signed i m content) few h = omega (arith, h, hash_most content)

module _ (k : Kind) (s : List ℕ) (l : Lent) (t : Table) (ok : table_ok t ≡ true) (c : Params) (named : Table) where
  shape_size_lem : (x : Shape) → length (pairs_of named) ≡ pairs_size named → ReadyShape s l t c x
      → shape_size (challenge_len c) (length l.public_key) (length l.nonce) named x ≡ length (bytes_of (shape_answer k s l t named x))
  unfolding info_response name_response register_draft signed_draft pairs_of write fill bytes le
  shape_size_lem (Status n) e h = refl
  shape_size_lem Info e h = simp length-append (omega (arith, h))
  shape_size_lem Names e h = simp length-append (omega arith)
  shape_size_lem Registration e h = simp length-append (omega (arith, h, challenge-size h.quoted))
  shape_size_lem (Signed i n true) e h =
      let m : length (sha256 (field_in transaction_content s)) ≡ 32 = sha256-length _ in
      simp length-append (omega (arith, h, challenge-size h.quoted, ((obeys_rules t ok).each i h.there).key-id))
  shape_size_lem (Signed i n false) e h =
      simp length-append (omega (arith, h, challenge-size h.quoted, ((obeys_rules t ok).each i h.there).key-id))

module _ {s : List ℕ} {l : Lent} {t : Table} {c : Params} {named : List ℕ} {x : Shape} (h : Ready s l t c named x) where
  pub short : Short (challenge_len c) (length l.public_key) (length l.nonce) t named x
  short = record { named-there = h.named-there; short_shape = shape_short s l t c x h.ready_shape }

  module _ (ok : table_ok t ≡ true) where
    -- its size is the length of its answer's bytes, which fit into every output that a call accepts
    pub size_is : (k : Kind)
        → reply_size (challenge_len c) (length l.public_key) (length l.nonce) t named x ≡ length (bytes_of (answer_of k s l t named x))
    unfolding reply_size answer_of
    size_is k = shape_size_lem k s l t ok c (records_at t named) x (sized t ok named h.named-there.each) h.ready_shape

    pub size-most : reply_size (challenge_len c) (length l.public_key) (length l.nonce) t named x ≤ least_output
    unfolding reply_size
    size-most =
        let few : pairs_size (records_at t named) ≤ 1376 = omega (arith, sized-most t ok named h.named-there.each, h.named-there.few) in
        shape_most _ _ _ (records_at t named) x few short.short_shape

-- ---- by a shape that is known

module _ (named : List ℕ) {y x : Shape} (e : y ≡ x) where
  pub size_by : (c p n : ℕ) (t : Table) → reply_size c p n t named y ≡ shape_size c p n (records_at t named) x
  unfolding reply_size
  size_by c p n t = rw e

  pub ready_by : {s : List ℕ} {l : Lent} {t : Table} {c : Params} → Ready s l t c named y → ReadyShape s l t c x
  ready_by h = rw e at h.ready_shape

  pub short_by : {c p n : ℕ} {t : Table} → Short c p n t named y → ShortShape c p n x
  short_by h = rw e at h.short_shape

  -- its bytes were written
  pub wrote_by : (k : Kind) (s : List ℕ) (l : Lent) (t : Table) {d d' : List ℕ} {len end : ℕ}
      → Wrote d 0 (bytes_of (shape_answer k s l t (records_at t named) x)) len d' end
      → Wrote d 0 (bytes_of (answer_of k s l t named y)) len d' end
  unfolding answer_of
  wrote_by k s l t w = rw e w
