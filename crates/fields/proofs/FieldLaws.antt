-- What a field's size says of a value.
-- Assumes nothing.
use mathlib.Core.Path.{◌≡◌, refl, sym, ◌∙◌}
use mathlib.Core.Bool.{Bool, true, false, ◌&&◌, and-true}
use mathlib.Core.List.{List}
use Prim.Native.Nat.{ℕ}
use lib.ListN.{length}
use lib.Dec.{leb}
use Rattle.model.specs.Tlv as model
use Rattle.model.specs.Tlv.{rule_of, fits}
use Rattle.fields.specs.Fields.{named, SizeIs}
use Rattle.fields.specs.declared.sizes.Size.{Size}
use Rattle.fields.specs.declared.Field.{Field}
use Rattle.fields.specs.declared.Field.TheVariants.{KeyId, MixedToken, Aaid, Metadata, PublicKey, Nonce, Signature, Certificate}

any-bytes : (f : Field) (v : List ℕ) → (rule_of (named f)).allowed v ≡ true
any-bytes KeyId v = refl
any-bytes MixedToken v = refl
any-bytes Aaid v = refl
any-bytes Metadata v = refl
any-bytes PublicKey v = refl
any-bytes Nonce v = refl
any-bytes Signature v = refl
any-bytes Certificate v = refl

-- a value obeys the rule if its length is allowed, and the rest of it is
module _ (f : model.Field) (v : List ℕ) {least most : ℕ} {b : Bool} (l : least ≡ (rule_of f).least) (m : most ≡ (rule_of f).most)
    (e : b ≡ (leb least (length v) && leb (length v) most)) where
  fits_allows : fits f v ≡ (b && (rule_of f).allowed v)
  unfolding fits
  fits_allows = rw (e, l, m)

  pub fits_not : b ≡ false → false ≡ fits f v
  fits_not h = sym (fits_allows ∙ rw h)

  pub fits-rest : {r : Bool} → b ≡ true → r ≡ (rule_of f).allowed v → r ≡ fits f v
  fits-rest h i = i ∙ sym (fits_allows ∙ rw h)

-- of these fields nothing else is asked
pub fits-sized : (f : Field) (v : List ℕ) (r : Size) {b : Bool} → SizeIs f r → b ≡ (leb r.least (length v) && leb (length v) r.most) → b ≡ fits (named f) v
fits-sized f v r {b} i e = sym (fits_allows (named f) v i.least-is i.most-is e ∙ rw (any-bytes f v) (and-true b))
