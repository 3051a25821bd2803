-- Which layouts of responses can read a stretch: by how its shapes are read from place to place, by its length, its outer tag and its status, and
-- by its key handles.
-- Assumes nothing.
use mathlib.Core.Path.{◌≡◌, refl, sym, ap, subst, ◌∙◌}
use mathlib.Core.Bool.{Bool, true, false, not, ◌&&◌, ◌||◌, or-false}
use mathlib.Core.List.{List, [], ◌∷◌, ◌++◌, map}
use Prim.Native.Nat.{ℕ, ◌≤◌, ◌<◌}
use native.Mathlib.Omega.{arith}
use lib.ListN.{length, get_or}
use lib.Dec.{leb, ltb, eqb}
use borrow.Author.Tests.{le-leb, eq-eqb, ne_eqb}
use Rattle.model.specs.Lists.{all, any, select, distinct}
use Rattle.model.specs.Tlv.{Kind, get_info, register, sign, deregister, open_settings, kinds, le, ok, signature, certificate, full, surrogate, response_tag, fits}
use Rattle.model.specs.Layouts.{Layout, reads}
use Rattle.model.specs.Commands.{statuses, status_only, info, name_list}
use Rattle.model.specs.Reader.{asserted, registered, signed, responses, holds, parts, field_parts, listed_keys, is_response, is_handle, list_lengths}
use Rattle.model.proofs.Basics.{split, clash, and_left, and_right, both, select_comm, NoneOf}
use Rattle.model.proofs.LayoutLaws.{most}
use Rattle.model.proofs.PartLaws.{honest, lacks}
use Rattle.model.proofs.LayoutWritten.{all_member, any_found, outer_tag}
use Rattle.tlv.specs.Numbers.{num_at}
use Rattle.layouts.proofs.PlaceLaws.{Gives, then-field, then-last, in_before}
use Rattle.layouts.proofs.SizeLaws.{Layered, nothing, one, many, layered, least, reads-least, reads-most, lacks_none}
use Rattle.response_reader.specs.Responses.{headed, alone, Opened, Longer, in_assertion}
use Rattle.response_reader.proofs.OpeningLaws.{Headed, answers, answered_headed, status_in, fits_first, layered_fits, status-is, alone-reads}

-- ---- a completed response

-- what the assertion holds is read on from its place
pub then_assertion : {s : List ℕ} {l : Layout} {outer assertion next : ℕ} {r : Bool} → Opened outer s → next ≡ in_assertion assertion s
    → Gives l s next r → Gives (asserted outer assertion l) s 0 r
unfolding in_assertion
then_assertion o e g = then-last o.inside (then-field o.past (then-last refl (then-last e g)))

-- two tests, one after the other
pub either_is : {a b x y : Bool} → a ≡ x → b ≡ y → (a || b) ≡ (x || y)
either_is {a} {b} p q = cc

-- ---- the layouts of a list that can read a stretch

module _ {A : Type 0} (p : A → Bool) where
  any_append : (xs ys : List A) → any p (xs ++ ys) ≡ (any p xs || any p ys)
  any_append [] ys = refl
  any_append (x ∷ xs) ys = split (p x) (λ e. rw e) (λ e. rw e (any_append xs ys))

  -- where only those that pass a test can be
  any_narrow : (q : A → Bool) → ((x : A) → p x ≡ true → q x ≡ true) → (xs : List A) → any p xs ≡ any p (select q xs)
  any_narrow q f [] = refl
  any_narrow q f (x ∷ xs) =
      let ih = any_narrow q f xs in
      split (p x) (λ e. let k = f x e in cc) (λ e. split (q x) (λ k. cc) (λ k. cc))

-- some of these layouts reads it
abbrev any_reads : List ℕ → List Layout → Bool
any_reads s ls = any (λ l. reads l s) ls

-- ---- the outer tag

pub layered_tag : {l : Layout} {s : List ℕ} → 4 ≤ length s → Layered l s → num_at 2 s 0 ≡ outer_tag l
unfolding num_at
layered_tag h nothing = absurd (omega arith)
layered_tag h (one p e f r) = rw p.spelled (p.tag_is ∙ e)
layered_tag h (many p e q r) = rw p.spelled (p.tag_is ∙ e)

-- ---- responses with names and without

-- a layout without a key handle
abbrev keyless : Layout → Bool
keyless l = honest 5 l && lacks is_handle l

abbrev plain : List Layout
plain = select keyless responses

abbrev lists : List Layout
lists = select (λ l. not (keyless l)) responses

plain_keyless : all keyless plain ≡ true
plain_keyless = refl

-- what it reads lists no KeyID, and so none twice
keyless_distinct : (l : Layout) (s : List ℕ) → keyless l ≡ true → reads l s ≡ true → distinct (listed_keys s) ≡ true
unfolding field_parts
keyless_distinct l s k r =
    rw (
      select_comm (λ p. is_handle p.tag) (λ p. not (holds p.tag)) (parts s),
      lacks_none is_handle l s (and_left (honest 5 l) _ k) (and_right (honest 5 l) _ k) r,
    )

plain-distinct : (s : List ℕ) → any_reads s plain ≡ true → distinct (listed_keys s) ≡ true
plain-distinct s e =
    let (l, m, r) = any_found (λ l. reads l s) plain e in
    keyless_distinct l s (all_member keyless m plain_keyless) r

and_second : (a b d : Bool) → (a ≡ true → d ≡ true) → ((a || b) && d) ≡ (a || (b && d))
and_second true b d f = f refl
and_second false b d f = refl

response_apart : (s : List ℕ) → is_response s ≡ (any_reads s plain || (any_reads s lists && distinct (listed_keys s)))
unfolding is_response
response_apart s =
    ap (λ (b : Bool). b && distinct (listed_keys s)) (any_append (λ l. reads l s) plain lists)
    ∙ and_second (any_reads s plain) (any_reads s lists) (distinct (listed_keys s)) (plain-distinct s)

-- ---- whether a stretch is a response

-- where only layouts that pass a test can read it
by_test : (s : List ℕ) (q : Layout → Bool) → ((l : Layout) → reads l s ≡ true → q l ≡ true)
    → is_response s ≡ (any_reads s (select q plain) || (any_reads s (select q lists) && distinct (listed_keys s)))
by_test s q f = response_apart s ∙ rw (any_narrow (λ l. reads l s) q f plain, any_narrow (λ l. reads l s) q f lists)

-- what every response passes holds of the layout that reads it
pub response_read : (q : Layout → Bool) (s : List ℕ) → all q responses ≡ true → is_response s ≡ true
    → (l : Layout) × (q l ≡ true) × (reads l s ≡ true)
unfolding is_response
response_read q s a e =
    let (l, m, r) = any_found (λ l. reads l s) responses (and_left (any (λ l. reads l s) responses) _ e) in
    (l, all_member q m a, r)

-- where only layouts that pass a test can read a response, one of them does
pub response-among : (q : Layout → Bool) (s : List ℕ) → ((l : Layout) → reads l s ≡ true → q l ≡ true) → is_response s ≡ true
    → any_reads s (select q responses) ≡ true
unfolding is_response
response-among q s f e = sym (any_narrow (λ l. reads l s) q f responses) ∙ and_left (any_reads s responses) _ e

pub response-headed : (s : List ℕ) → is_response s ≡ true → headed s ≡ true
response-headed s e = let (l, k, r) = response_read answers s refl e in answered_headed (layered l s r) k

pub unheaded_is : (s : List ℕ) → headed s ≡ false → is_response s ≡ false
unheaded_is s h = split (is_response s) (λ e. clash (response-headed s e) h) (λ e. e)

-- ---- a status alone

-- a number that was compared with some and is none of them
kept : (K : Type 0) (n : ℕ) (ns : List ℕ) → NoneOf (λ m. m) K n ns → K
kept K n [] h = h
kept K n (m ∷ ns) h = (kept (K × (n ≡ m → ⊥)) n ns h).0

none_of : (K : Type 0) (n : ℕ) (ns : List ℕ) → NoneOf (λ m. m) K n ns → any (eqb n) ns ≡ false
none_of K n [] h = refl
none_of K n (m ∷ ns) h =
    let L : Type 0 = K × (n ≡ m → ⊥) in
    rw (ne_eqb n m (kept L n ns h).1, none_of L n ns h)

pub none_among : (n : ℕ) (ns : List ℕ) → NoneOf (λ m. m) (Unit {0}) n ns → any (eqb n) ns ≡ false
none_among n ns h = none_of (Unit {0}) n ns h

-- the command is known by its tag
module _ {t : ℕ} (n : ℕ) {b : Bool} where
  pub alone_info : t ≡ response_tag get_info → b ≡ any (eqb n) (statuses get_info) → b ≡ alone t n
  unfolding alone
  alone_info e f = f ∙ rw e (simp or-false)

  pub alone_register : t ≡ response_tag register → b ≡ any (eqb n) (statuses register) → b ≡ alone t n
  unfolding alone
  alone_register e f = f ∙ rw e (simp or-false)

  pub alone_sign : t ≡ response_tag sign → b ≡ any (eqb n) (statuses sign) → b ≡ alone t n
  unfolding alone
  alone_sign e f = f ∙ rw e (simp or-false)

  pub alone_deregister : t ≡ response_tag deregister → b ≡ any (eqb n) (statuses deregister) → b ≡ alone t n
  unfolding alone
  alone_deregister e f = f ∙ rw e (simp or-false)

  pub alone_open_settings : t ≡ response_tag open_settings → b ≡ any (eqb n) (statuses open_settings) → b ≡ alone t n
  unfolding alone
  alone_open_settings e f = f ∙ rw e (simp or-false)

pub alone_none : {t : ℕ} (n : ℕ) → NoneOf response_tag (Unit {0}) t kinds → alone t n ≡ false
unfolding alone
alone_none n h =
    simp (
      ne_eqb _ _ h.1,
      ne_eqb _ _ h.0.1,
      ne_eqb _ _ h.0.0.1,
      ne_eqb _ _ h.0.0.0.1,
      ne_eqb _ _ h.0.0.0.0.1,
    )

-- of each command, and of a tag that names none
pub ruleset alone_laws = (alone_info, alone_register, alone_sign, alone_deregister, alone_open_settings, alone_none)

any_as : (p : Layout → Bool) (f : Kind → Layout) (q : Kind → Bool) → ((k : Kind) → p (f k) ≡ q k) → (ks : List Kind)
    → any p (map f ks) ≡ any q ks
any_as p f q h [] = refl
any_as p f q h (k ∷ ks) = rw (h k, any_as p f q h ks)

few-statuses : (k : Kind) → all (λ n. ltb n 256) (statuses k) ≡ true
few-statuses get_info = refl
few-statuses register = refl
few-statuses sign = refl
few-statuses deregister = refl
few-statuses open_settings = refl

alone_read : {s : List ℕ} → Headed s → length s ≡ 10 → get_or s 8 0 < 256 → any_reads s (map status_only kinds) ≡ alone (num_at 2 s 0) (num_at 2 s 8)
unfolding alone
alone_read {s} h n b =
    any_as (λ l. reads l s) status_only _
    (λ k. alone-reads h (response_tag k) (statuses k) n
    ∙ ap (λ (x : Bool). eqb (num_at 2 s 0) (response_tag k) && x) (status-is s (statuses k) h.long b (few-statuses k)))
    kinds

-- ten bytes are too few for anything else
pub alone-any : (s : List ℕ) → length s ≡ 10 → is_response s ≡ any_reads s (map status_only kinds)
unfolding le
alone-any s n =
    by_test s (λ l. leb (least l) 10) (λ l r. le-leb (least l) 10 (omega (arith, reads-least l s r))) ∙ or-false _

pub alone-is : {s : List ℕ} → Headed s → length s ≡ 10 → get_or s 8 0 < 256 → is_response s ≡ alone (num_at 2 s 0) (num_at 2 s 8)
alone-is {s} h n b = alone-any s n ∙ alone_read h n b

-- ---- more than a status

-- more follows status OK alone
pub status_bad : {s : List ℕ} → Headed s → 10 < length s → fits ok (status_in s) ≡ false → is_response s ≡ false
unfolding le
status_bad {s} h n e =
    by_test s (λ l. leb 11 (most l) && fits_first (status_in s) l)
    (λ l r. both (le-leb 11 (most l) (omega (arith, reads-most l s r))) (layered_fits h (layered l s r)))
    ∙ rw e

long_by : {s : List ℕ} {t : ℕ} → Longer t s → let q : Layout → Bool = λ l. leb 11 (most l) && eqb t (outer_tag l) in
    is_response s ≡ (any_reads s (select q plain) || (any_reads s (select q lists) && distinct (listed_keys s)))
long_by {s} {t} g =
    let i = in_before (omega (arith, g.more)) t g.opened.inside in
    by_test s _
    (λ l r. both (le-leb 11 (most l) (omega (arith, g.more, reads-most l s r)))
    (eq-eqb t (outer_tag l) (i.tag_is ∙ layered_tag (omega (arith, g.more)) (layered l s r))))

pub longer_as : {s : List ℕ} {t u : ℕ} → t ≡ u → Longer t s → Longer u s
longer_as {s} e g = subst (λ (v : ℕ). Longer v s) e g

pub info-is : {s : List ℕ} → Longer (response_tag get_info) s → is_response s ≡ reads info s
unfolding le
info-is g = long_by g ∙ simp or-false

pub registered-is : {s : List ℕ} → Longer (response_tag register) s
    → is_response s ≡ (reads (registered full (signature ∷ certificate ∷ [])) s || reads (registered surrogate (signature ∷ [])) s)
unfolding le
registered-is g = long_by g ∙ simp or-false

pub signed_is : {s : List ℕ} → Longer (response_tag sign) s
    → is_response s
    ≡ ((reads (signed true) s || reads (signed false) s) || (any (λ n. reads (name_list n) s) list_lengths && distinct (listed_keys s)))
unfolding le
signed_is g = long_by g ∙ simp or-false

pub other_is : {s : List ℕ} {t : ℕ} → Longer t s → NoneOf response_tag (Unit {0}) t (get_info ∷ register ∷ sign ∷ []) → is_response s ≡ false
unfolding le
other_is g n = long_by g ∙ simp (ne_eqb _ _ n.1, ne_eqb _ _ n.0.1, ne_eqb _ _ n.0.0.1)
