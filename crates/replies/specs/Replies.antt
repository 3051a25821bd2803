-- Which answer of `model` a reply is, and how long its bytes are.
use Rattle.std.specs.Prelude.{◌≡◌, ℕ, ◌+◌, ◌-◌, ◌≤◌, ◌<◌, Bool, true, false, cond, List, [], ◌∷◌, length, get_or}
use Rattle.model.specs.Sha256.{sha256}
use Rattle.model.specs.Tlv.{le, Kind, get_info, register, sign, challenge_hash, transaction_content, field_in}
use Rattle.model.specs.Layouts.{write}
use Rattle.model.specs.Records.{Table}
use Rattle.model.specs.Commands.{Lent, Answer, response, draft, status_only, info_response, name_response, register_draft}
use Rattle.tlv.specs.Heads.{part}
use Rattle.params.specs.Lent.{numbers_in}
use Rattle.params.specs.Parse.{Placed}
use Rattle.params.specs.declared.parse.Params.{Params}
use Rattle.stored_table.specs.Stored.{no_record}
use Rattle.stored_table.specs.Chosen.{ChosenOf, records_at}
use Rattle.replies.specs.Writes.{signed_draft}
use Rattle.replies.specs.declared.reply.Shape.{Shape}
use Rattle.replies.specs.declared.reply.Shape.TheVariants.{Status, Info, Names, Registration, Signed}

-- ---- what it says to a command s of this kind that was lent this, on this table

abbrev pub shape_answer : Kind → List ℕ → Lent → Table → Table → Shape → Answer
shape_answer k s l t named (Status n) = response (write (status_only k) (le 2 n ∷ []))
shape_answer k s l t named Info = response (info_response l)
shape_answer k s l t named Names = response (name_response named)
shape_answer k s l t named Registration = draft (register_draft s l)
shape_answer k s l t named (Signed i n content) =
    draft (signed_draft content l.aaid (numbers_in l) l.nonce (field_in challenge_hash s) (sha256 (field_in transaction_content s))
    (get_or t i no_record).key_id n)

-- where it names the records with these numbers
unfoldable pub answer_of : Kind → List ℕ → Lent → Table → List ℕ → Shape → Answer
answer_of k s l t named x = shape_answer k s l t (records_at t named) x

-- whether that is a draft
abbrev pub is_draft : Shape → Bool
is_draft (Status n) = false
is_draft Info = false
is_draft Names = false
is_draft Registration = true
is_draft (Signed i n content) = true

-- ---- how long its bytes are, by the lengths of challenge hash, public key and nonce and by the names of the records

abbrev pub challenge_len : Params → ℕ
challenge_len p = p.challenge_hash.end - p.challenge_hash.start

-- a name and a KeyID for each: three headers, the name and 32 bytes
abbrev pub pairs_size : Table → ℕ
pairs_size [] = 0
pairs_size (r ∷ rs) = 44 + length r.name + pairs_size rs

abbrev pub shape_size : (challenge public_key nonce : ℕ) → Table → Shape → ℕ
shape_size c p x named (Status n) = 10
shape_size c p x named Info = 94
shape_size c p x named Names = 10 + pairs_size named
shape_size c p x named Registration = 84 + c + p
shape_size c p x named (Signed i n content) = 78 + c + x + cond content 36 4

unfoldable pub reply_size : (challenge public_key nonce : ℕ) → Table → List ℕ → Shape → ℕ
reply_size c p n t named x = shape_size c p n (records_at t named) x

-- ---- what a writer needs

-- what a draft takes of the command stands in these parts of it: the challenge hash, and the content whose hash it has
pub record Quoted (s : List ℕ) (p : Params) : Type 0 where
  pub challenge : Placed s challenge_hash p.challenge_hash
  pub short : length (part s p.challenge_hash) ≤ 32
  pub content : Placed s transaction_content p.transaction_content

-- what a command answers for: its reply is one of its own, and what it is about is there
abbrev pub SoundShape : Kind → List ℕ → Table → Params → Shape → Type 0
SoundShape k s t p (Status n) = Unit {0}
SoundShape k s t p Info = k ≡ get_info
SoundShape k s t p Names = Unit {0}
SoundShape k s t p Registration = (k ≡ register) × Quoted s p
SoundShape k s t p (Signed i n content) = (k ≡ sign) × Quoted s p × (i < length t)

pub record Sound (k : Kind) (s : List ℕ) (t : Table) (p : Params) (named : List ℕ) (x : Shape) : Type 0 where
  pub named-there : ChosenOf t named
  pub own_shape : SoundShape k s t p x

-- a writer's output is what it should be only if what it writes of what is lent has the right length: for key registration data, for signed data, and
-- by the shape
pub record KrdReady (s a k q : List ℕ) (p : Params) : Type 0 where
  pub aaid : length a ≡ 9
  pub quoted : Quoted s p
  pub key-id : length k ≡ 32
  pub public-key : length q ≤ 512

pub record SignedReady (s a x : List ℕ) (t : Table) (p : Params) (i : ℕ) : Type 0 where
  pub aaid : length a ≡ 9
  pub nonce : length x ≤ 32
  pub quoted : Quoted s p
  pub there : i < length t

abbrev pub ReadyShape : List ℕ → Lent → Table → Params → Shape → Type 0
ReadyShape s l t p (Status n) = Unit {0}
ReadyShape s l t p Info = (length l.aaid ≡ 9) × (length l.metadata ≡ 15)
ReadyShape s l t p Names = Unit {0}
ReadyShape s l t p Registration = KrdReady s l.aaid l.key_id l.public_key p
ReadyShape s l t p (Signed i n content) = SignedReady s l.aaid l.nonce t p i

pub record Ready (s : List ℕ) (l : Lent) (t : Table) (p : Params) (named : List ℕ) (x : Shape) : Type 0 where
  pub named-there : ChosenOf t named
  pub ready_shape : ReadyShape s l t p x

-- the lengths that count are short
abbrev pub ShortShape : (challenge public_key nonce : ℕ) → Shape → Type 0
ShortShape c p x (Status n) = Unit {0}
ShortShape c p x Info = Unit {0}
ShortShape c p x Names = Unit {0}
ShortShape c p x Registration = (c ≤ 32) × (p ≤ 512)
ShortShape c p x (Signed i n content) = (c ≤ 32) × (x ≤ 32)

pub record Short (challenge public_key nonce : ℕ) (t : Table) (named : List ℕ) (x : Shape) : Type 0 where
  pub named-there : ChosenOf t named
  pub short_shape : ShortShape challenge public_key nonce x
