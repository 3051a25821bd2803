-- The writer of commands: a command that it writes breaks no rule and has the values that were given and nothing else; and what it refuses.
-- Assumes nothing.
use mathlib.Core.Path.{◌≡◌, refl, sym, ap, subst}
use mathlib.Core.Bool.{Bool, true, false, not, cond, ◌&&◌}
use mathlib.Core.List.{List, [], ◌∷◌, ◌++◌, map, append-nil}
use mathlib.Core.Logic.{◌⊎◌, inl, inr}
use mathlib.Core.Option.{none, some, get_or}
use Prim.Native.Nat.{ℕ, ◌+◌, ◌≤◌, ◌<◌, zero-le}
use native.Mathlib.Omega.{arith}
use lib.ListN.{length, replicate}
use lib.Dec.{leb, ltb, eqb}
use borrow.Author.Tests.{eqb-true, eqb-false, eq-eqb, ne_eqb, leb-true, leb-false, le-leb, lt-leb, ltb-true, lt-ltb, le-ltb, not-true}
use Rattle.model.specs.Lists.{all, given, eq_bytes}
use Rattle.model.specs.Tlv.{le, Tlv, tlv, bytes, Kind, get_info, sign, open_settings, Field, tag_of, fits, Listed, fields_of, listed, values_of, times_allowed, times_ok, children_ok, children, kind_of, broken, fields_in, max_command}
use Rattle.model.specs.Commands.{Call, Given, kind, judge, refused, gave, refusals, Effect, outcome}
use Rattle.model.specs.Complete.{output_of}
use Rattle.model.specs.Writer.{Values, one, marked, pieces, Wanted, to_get_info, to_sign, to_open_settings, wanted_values, children_for, command_of, values_ok, each_ok, writable, write_values, write_command, values_in}
use Rattle.model.proofs.Basics.{split, clash, impossible, up-to, and_left, and_right, both, all_append, Each, all-each, each_all, each_same, judged_each}
use Rattle.model.proofs.Tlvs.{Sized}
use Rattle.model.proofs.Kept.{status_of, Accepted, accepted}
use Rattle.model.proofs.CommandWrites.{each-kind}
use Rattle.model.proofs.Refusals.{Over, is-over}
use Rattle.model.proofs.Edges.{invalid_only}
use Rattle.model.proofs.Witness.{total, length-command, kind-command, children-command, not-broken}

-- ---- the rules for the values of each field, in words

-- they are said, no fewer than must be given, no more than may be, and each obeys its field's rule
pub record Obeys (f : Listed) (vs : Values) : Type 0 where
  pub values : List (List ℕ)
  pub said : vs ≡ some values
  pub enough : f.least ≤ length values
  pub few : length values ≤ f.most
  pub each : Each (λ v. fits f.field v ≡ true) values

-- field by field
abbrev pub Obeyed : List Listed → List Values → Type 0
Obeyed [] [] = Unit {0}
Obeyed [] (vs ∷ vss) = ⊥
Obeyed (f ∷ fs) [] = ⊥
Obeyed (f ∷ fs) (vs ∷ vss) = Obeys f vs × Obeyed fs vss

values_obey : (f : Listed) (vs : Values) → values_ok f vs ≡ true → Obeys f vs
values_obey f none e = clash e refl
values_obey f (some vs) e =
    let n : times_allowed f (length vs) ≡ true = and_left (times_allowed f (length vs)) _ e in
    record {
      values = vs;
      said = refl;
      enough = leb-true _ _ (and_left (leb f.least (length vs)) _ n);
      few = leb-true _ _ (and_right (leb f.least (length vs)) _ n);
      each = all-each (fits f.field) _ (λ v h. h) vs (and_right (times_allowed f (length vs)) _ e);
    }

obey_values : (f : Listed) (vs : Values) → Obeys f vs → values_ok f vs ≡ true
obey_values f vs o =
    rw o.said (both (both (le-leb _ _ o.enough) (le-leb _ _ o.few)) (each_all (fits f.field) _ (λ v h. h) o.values o.each))

pub fields_obey : (fs : List Listed) (vss : List Values) → each_ok fs vss ≡ true → Obeyed fs vss
unfolding each_ok
fields_obey [] [] e = tt
fields_obey [] (vs ∷ vss) e = clash e refl
fields_obey (f ∷ fs) [] e = clash e refl
fields_obey (f ∷ fs) (vs ∷ vss) e =
    (values_obey f vs (and_left (values_ok f vs) _ e), fields_obey fs vss (and_right (values_ok f vs) _ e))

pub obey_fields : (fs : List Listed) (vss : List Values) → Obeyed fs vss → each_ok fs vss ≡ true
unfolding each_ok
obey_fields [] [] o = refl
obey_fields [] (vs ∷ vss) o = absurd o
obey_fields (f ∷ fs) [] o = absurd o
obey_fields (f ∷ fs) (vs ∷ vss) (o, os) = both (obey_values f vs o) (obey_fields fs vss os)

-- a command is written where they are obeyed and it is not too long
pub may_write : (k : Kind) (vss : List Values) → Obeyed (fields_of k) vss → length (command_of k vss) ≤ 8192 → writable k vss ≡ true
unfolding writable
may_write k vss o n = both (obey_fields (fields_of k) vss o) (le-leb _ _ n)

pub writable_means : (k : Kind) (vss : List Values) → writable k vss ≡ true → Obeyed (fields_of k) vss × (length (command_of k vss) ≤ 8192)
unfolding writable
writable_means k vss w =
    (fields_obey (fields_of k) vss (and_left (each_ok (fields_of k) vss) _ w), leb-true _ _ (and_right (each_ok (fields_of k) vss) _ w))

-- ---- fields with different tags

abbrev pub tags_differ : List Listed → Bool
tags_differ [] = true
tags_differ (f ∷ fs) = not (given (listed fs (tag_of f.field))) && tags_differ fs

pub tags-differ : (k : Kind) → tags_differ (fields_of k) ≡ true
tags-differ = each-kind (λ k. tags_differ (fields_of k)) refl

tags-small : (k : Kind) → all (λ f. ltb (tag_of f.field) 65536) (fields_of k) ≡ true
tags-small = each-kind (λ k. all (λ f. ltb (tag_of f.field) 65536) (fields_of k)) refl

-- the first one's tag is not listed after it
pub first_differs : (f : Listed) (fs : List Listed) → tags_differ (f ∷ fs) ≡ true
    → (given (listed fs (tag_of f.field)) ≡ false) × (tags_differ fs ≡ true)
first_differs f fs d =
    let b : Bool = not (given (listed fs (tag_of f.field))) in
    (not-true _ (and_left b _ d), and_right b _ d)

-- each of them is what is listed with its tag
abbrev pub Own : List Listed → Listed → Type 0
Own fs f = listed fs (tag_of f.field) ≡ some f

own-past : (f g : Listed) (fs : List Listed) → given (listed fs (tag_of f.field)) ≡ false → Own fs g → Own (f ∷ fs) g
own-past f g fs h e =
    split (eqb (tag_of f.field) (tag_of g.field))
    (λ q. clash (rw (eqb-true (tag_of f.field) (tag_of g.field) q, e)) h)
    (λ q. rw q e)

pub each-own : (fs : List Listed) → tags_differ fs ≡ true → Each (Own fs) fs
each-own [] d = tt
each-own (f ∷ fs) d =
    let (alone, rest) = first_differs f fs d in
    (rw (eq-eqb (tag_of f.field) _ refl), each_same (Own fs) _ (λ g. own-past f g fs alone) fs (each-own fs rest))

-- ---- the children that are written

module _ (p : Tlv → Bool) where
  all-tlvs : (t : ℕ) (vs : List (List ℕ)) → Each (λ v. p (tlv t v) ≡ true) vs → all p (map (tlv t) vs) ≡ true
  all-tlvs t [] e = refl
  all-tlvs t (v ∷ vs) (e, es) = both e (all-tlvs t vs es)

  -- what holds of a child for each value that obeys its field's rule holds of all
  all-children : (fs : List Listed) (vss : List Values) → Obeyed fs vss
      → Each (λ f. (v : List ℕ) → fits f.field v ≡ true → p (tlv (tag_of f.field) v) ≡ true) fs → all p (children_for fs vss) ≡ true
  unfolding children_for
  all-children [] vss o h = refl
  all-children (f ∷ fs) [] o h = absurd o
  all-children (f ∷ fs) (vs ∷ vss) (o, os) (h, hs) =
      rw o.said
      (all_append p (map (tlv (tag_of f.field)) o.values) _
      (all-tlvs (tag_of f.field) o.values (each_same (λ v. fits f.field v ≡ true) _ h o.values o.each))
      (all-children fs vss os hs))

-- the children that are written for one field, in front of others, give these values to the fields with its tag alone
front_values : (g : Field) (t : ℕ) (vs : List (List ℕ)) (ts : List Tlv)
    → values_of g (map (tlv t) vs ++ ts) ≡ cond (eqb t (tag_of g)) vs [] ++ values_of g ts
front_values g t [] ts = split (eqb t (tag_of g)) (λ e. rw e) (λ e. rw e)
front_values g t (v ∷ vs) ts =
    let ih = front_values g t vs ts in
    split (eqb t (tag_of g)) (λ e. cc) (λ e. cc)

-- the values of each field of a list, in the order of the list
abbrev pub values_for : List Listed → List Tlv → List Values
values_for fs ts = map (λ f. some (values_of f.field ts)) fs

-- a field that is not listed has none
other_values : (g : Field) (fs : List Listed) (vss : List Values) → given (listed fs (tag_of g)) ≡ false → values_of g (children_for fs vss) ≡ []
unfolding children_for
other_values g [] vss h = refl
other_values g (f ∷ fs) [] h = refl
other_values g (f ∷ fs) (vs ∷ vss) h =
    split (eqb (tag_of f.field) (tag_of g))
    (λ e. clash (rw e) h)
    (λ e. rw (front_values g (tag_of f.field) (get_or vs []) (children_for fs vss), e) (other_values g fs vss (rw e at h)))

-- and those of one that is not listed are not among the listed ones'
pub past-values : (t : ℕ) (vs : List (List ℕ)) (ts : List Tlv) (gs : List Listed) → given (listed gs t) ≡ false
    → values_for gs (map (tlv t) vs ++ ts) ≡ values_for gs ts
past-values t vs ts [] h = refl
past-values t vs ts (g ∷ gs) h =
    split (eqb (tag_of g.field) t)
    (λ e. clash (rw e) h)
    (λ e.
    let d : eqb t (tag_of g.field) ≡ false = ne_eqb t (tag_of g.field) (λ q. eqb-false (tag_of g.field) t e (sym q)) in
    rw (front_values g.field t vs ts, d, past-values t vs ts gs (rw e at h)))

-- reading gives the values that were given
pub values-written : (fs : List Listed) (vss : List Values) → tags_differ fs ≡ true → Obeyed fs vss → values_for fs (children_for fs vss) ≡ vss
unfolding children_for
values-written [] [] d o = refl
values-written [] (vs ∷ vss) d o = absurd o
values-written (f ∷ fs) [] d o = absurd o
values-written (f ∷ fs) (vs ∷ vss) d (o, os) =
    let t : ℕ = tag_of f.field in
    let (alone, rest) = first_differs f fs d in
    subst
    (λ (v : Values). values_for (f ∷ fs) (children_for (f ∷ fs) (v ∷ vss)) ≡ v ∷ vss)
    (sym o.said)
    (rw (
      front_values f.field t o.values (children_for fs vss),
      eq-eqb t t refl,
      other_values f.field fs vss alone,
      past-values t o.values (children_for fs vss) fs alone,
      values-written fs vss rest os,
      append-nil,
    ))

-- so each is given as often as it must and may be
times-written : (ts : List Tlv) (fs : List Listed) → Obeyed fs (values_for fs ts) → all (times_ok ts) fs ≡ true
times-written ts [] o = refl
times-written ts (f ∷ fs) (o, os) =
    let e : values_of f.field ts ≡ o.values = cc in
    rw e (both (both (le-leb _ _ o.enough) (le-leb _ _ o.few)) (times-written ts fs os))

-- ---- tags and lengths of 16 bits

sized-run : (ts : List Tlv) → all (λ t. ltb t.tag 65536) ts ≡ true → total ts < 65536 → Sized ts
sized-run [] e n = tt
sized-run (t ∷ ts) e n =
    (ltb-true _ _ (and_left (ltb t.tag 65536) _ e), omega arith, sized-run ts (and_right (ltb t.tag 65536) _ e) (omega arith))

-- ---- the command

-- a command with these values and nothing else, which breaks no rule
pub record Written (k : Kind) (vss : List Values) (s : List ℕ) : Type 0 where
  pub names : kind_of s ≡ some k
  pub breaks_none : broken k s ≡ false
  pub holds : children s ≡ some (children_for (fields_of k) vss)
  -- nothing that the command does not list stands in it
  pub listed-only : all (λ c. given (listed (fields_of k) c.tag)) (children_for (fields_of k) vss) ≡ true
  -- reading gives for each listed field the values that were given, in their order
  pub yields : values_in k s ≡ vss
  pub short : length s ≤ 8192

pub written_of : (k : Kind) (vss : List Values) → writable k vss ≡ true → Written k vss (command_of k vss)
unfolding command_of values_in fields_in children_ok
written_of k vss w =
    let fs : List Listed = fields_of k in
    let ts : List Tlv = children_for fs vss in
    let (o, n) = writable_means k vss w in
    let m : 4 + total ts ≤ max_command = rw length-command at n in
    let own : Each (Own fs) fs = each-own fs (tags-differ k) in
    let small : all (λ t. ltb t.tag 65536) ts ≡ true = all-children _ fs vss o (all-each _ _ (λ f e v h. e) fs (tags-small k)) in
    let z : Sized ts = sized-run ts small (omega arith) in
    let v : values_for fs ts ≡ vss = values-written fs vss (tags-differ k) o in
    record {
      names = kind-command k ts;
      breaks_none =
          not-broken k ts z m
          (both (all-children _ fs vss o (each_same (Own fs) _ (λ f e v h. rw e h) fs own)) (times-written ts fs (rw v o)));
      holds = children-command k ts z m;
      listed-only = all-children _ fs vss o (each_same (Own fs) _ (λ f e v h. rw e) fs own);
      yields = rw (children-command k ts z m) v;
      short = n;
    }

-- ---- what is given, refusal by refusal

-- a field breaks a rule, or the command is too long
abbrev pub Breaks : Kind → List Values → Type 0
Breaks k vss = (each_ok (fields_of k) vss ≡ false) ⊎ (8192 < length (command_of k vss))

-- one does for which nothing is said that could be written
pub unsaid_breaks : (fs : List Listed) (vss uss : List Values) → each_ok fs (vss ++ (none ∷ uss)) ≡ false
unfolding each_ok
unsaid_breaks [] [] uss = refl
unsaid_breaks [] (vs ∷ vss) uss = refl
unsaid_breaks (f ∷ fs) [] uss = refl
unsaid_breaks (f ∷ fs) (vs ∷ vss) uss =
    let ih = unsaid_breaks fs vss uss in
    split (values_ok f vs) (λ e. rw (e, ih)) (λ e. rw e)

may_not : (k : Kind) (vss : List Values) → writable k vss ≡ false → Breaks k vss
unfolding writable
may_not k vss w =
    split (each_ok (fields_of k) vss)
    (λ e. inr (leb-false _ _ (rw e at w)))
    (λ e. inl e)

not-writable : (k : Kind) (vss : List Values) → Breaks k vss → writable k vss ≡ false
unfolding writable
not-writable k vss (inl e) = rw e
not-writable k vss (inr n) = split (each_ok (fields_of k) vss) (λ e. rw (e, lt-leb _ _ n)) (λ e. rw e)

module _ (k : Kind) (vss : List Values) (n : ℕ) where
  pub refuses_6 : Breaks k vss → write_values k vss n ≡ refused 6
  unfolding write_values judge
  refuses_6 b = rw (not-writable k vss b)

  pub refuses_1 : writable k vss ≡ true → n < length (command_of k vss) → write_values k vss n ≡ refused 1
  unfolding write_values judge
  refuses_1 w h = rw (w, lt-ltb _ _ h)

  pub writes : writable k vss ≡ true → length (command_of k vss) ≤ n → write_values k vss n ≡ gave (command_of k vss)
  unfolding write_values judge
  writes w h = rw (w, le-ltb _ _ h)

-- there is no fourth way
pub data Ways (k : Kind) (vss : List Values) (n : ℕ) : Type 0 where
  breaking : Breaks k vss → write_values k vss n ≡ refused 6 → Ways k vss n
  no_room : writable k vss ≡ true → n < length (command_of k vss) → write_values k vss n ≡ refused 1 → Ways k vss n
  writing : writable k vss ≡ true → length (command_of k vss) ≤ n → write_values k vss n ≡ gave (command_of k vss) → Ways k vss n

pub ways : (k : Kind) (vss : List Values) (n : ℕ) → Ways k vss n
ways k vss n =
    split (writable k vss)
    (λ w. up-to (length (command_of k vss)) n (λ h. writing w h (writes k vss n w h)) (λ h. no_room w h (refuses_1 k vss n w h)))
    (λ w. let b : Breaks k vss = may_not k vss w in breaking b (refuses_6 k vss n b))

module _ (k : Kind) (vss : List Values) (n : ℕ) where
  pub refused_6 : write_values k vss n ≡ refused 6 → Breaks k vss
  refused_6 e = go (ways k vss n)
    where
      go : Ways k vss n → Breaks k vss
      go (breaking b f) = b
      go (no_room w h f) = impossible cc
      go (writing w h f) = impossible cc

  pub refused_1 : write_values k vss n ≡ refused 1 → (writable k vss ≡ true) × (n < length (command_of k vss))
  refused_1 e = go (ways k vss n)
    where
      go : Ways k vss n → (writable k vss ≡ true) × (n < length (command_of k vss))
      go (breaking b f) = impossible cc
      go (no_room w h f) = (w, h)
      go (writing w h f) = impossible cc

  -- what is given is the command
  pub gave-command : (s : List ℕ) → write_values k vss n ≡ gave s
      → (writable k vss ≡ true) × (length (command_of k vss) ≤ n) × (command_of k vss ≡ s)
  gave-command s e = go (ways k vss n)
    where
      go : Ways k vss n → (writable k vss ≡ true) × (length (command_of k vss) ≤ n) × (command_of k vss ≡ s)
      go (breaking b f) = impossible cc
      go (no_room w h f) = impossible cc
      go (writing w h f) = (w, h, (cc))

pub written : (k : Kind) (vss : List Values) (n : ℕ) (s : List ℕ) → write_values k vss n ≡ gave s → Written k vss s
written k vss n s e =
    let (w, h, f) = gave-command k vss n s e in
    rw f at (written_of k vss w)

-- GetInfo and Open settings are lent nothing that could break a rule
pub never_6 : (n : ℕ) → (write_command to_get_info n ≡ refused 6 → ⊥) × (write_command to_open_settings n ≡ refused 6 → ⊥)
unfolding writable each_ok command_of children_for bytes le fits eq_bytes
never_6 n = (
  (λ e. clash refl (not-writable get_info [] (refused_6 get_info [] n e))),
  (λ e. clash refl (not-writable open_settings (one (0 ∷ []) ∷ []) (refused_6 open_settings (one (0 ∷ []) ∷ []) n e))),
)

-- ---- a call with it

-- is not refused with 3, nor answered with 0x08
module _ (k : Kind) (c : Call) (g : Given) (n : kind_of c.command ≡ some k) where
  pub runs : outcome c g ≡ refused 3 → ⊥
  unfolding outcome refusals
  runs =
      judged_each (λ r. r ≡ refused 3 → ⊥) (refusals c g) refused _
      ((λ b e. impossible cc), ((λ b e. impossible cc), ((λ b e. clash b (rw n)), ((λ b e. impossible cc), tt))))
      (λ e. impossible cc)

  pub runs_valid : broken k c.command ≡ false → (e : Effect) → outcome c g ≡ gave e → status_of e.answer ≡ 0x08 → ⊥
  runs_valid b e p h =
      let a : Accepted c g e = accepted c g e p in
      let i : kind c ≡ k = rw n in
      invalid_only c a.table (kind c) (rw i b) (rw a.done h)

-- ---- the output: as it was after a refusal, else the command and the rest as it was

pub refused_writing : (k : Kind) (vss : List Values) (n m : ℕ) (out : List ℕ) → write_values k vss n ≡ refused m
    → output_of (write_values k vss n) out ≡ out
refused_writing k vss n m out e = rw e

pub writing_over : (k : Kind) (vss : List Values) (n : ℕ) (s out : List ℕ) → write_values k vss n ≡ gave s → n ≤ length out
    → Over s out (output_of (write_values k vss n) out)
writing_over k vss n s out e h =
    let (w, m, f) = gave-command k vss n s e in
    rw e (is-over s out (omega (arith, ap length f)))

-- ---- 8,192 bytes are reached

-- a Sign with transaction content v and no more than it must have
module _ (c t : ℕ) (v : List ℕ) where
  abbrev pub content_only : Wanted
  content_only = to_sign 0 [] (c ∷ []) 1 v (replicate 32 t) 0 [] [] []

  pub content-length : length (command_of sign (wanted_values content_only)) ≡ 54 + length v
  unfolding command_of children_for marked pieces
  content-length = rw length-command (omega arith)

  content-ok : length v ≤ 8138 → writable sign (wanted_values content_only) ≡ true
  unfolding writable each_ok fits eq_bytes marked pieces
  content-ok h =
      rw (
        le-leb 0 (length v) zero-le,
        le-leb (length v) 8192 (omega arith),
        le-leb (length (command_of sign (wanted_values content_only))) 8192 (omega (arith, content-length)),
      )

  module _ (n : ℕ) where
    pub content-writes : length v ≤ 8138 → 54 + length v ≤ n → write_command content_only n ≡ gave (command_of sign (wanted_values content_only))
    content-writes h m = writes sign (wanted_values content_only) n (content-ok h) (omega (arith, content-length))

    pub content-written : (s : List ℕ) → write_command content_only n ≡ gave s → (length v ≤ 8138) × (54 + length v ≤ n)
    content-written s e =
        let (w, h, f) = gave-command sign (wanted_values content_only) n s e in
        (omega (arith, content-length, (writable_means sign (wanted_values content_only) w).1), omega (arith, content-length))

    pub content-refuses : 8138 < length v → write_command content_only n ≡ refused 6
    content-refuses h = refuses_6 sign (wanted_values content_only) n (inr (omega (arith, content-length)))

    pub content-refused : write_command content_only n ≡ refused 6 → 8138 < length v
    content-refused e =
        up-to (length v) 8138
        (λ h. clash (content-ok h) (not-writable sign (wanted_values content_only) (refused_6 sign (wanted_values content_only) n e)))
        (λ h. h)
