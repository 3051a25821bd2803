-- The one form of each accepted command, and which commands the writers write.
-- Assumes nothing.
use mathlib.Core.Path.{◌≡◌, refl, sym, ap, ◌∙◌}
use mathlib.Core.Bool.{true, false}
use mathlib.Core.List.{List, [], ◌∷◌, ◌++◌, map}
use mathlib.Core.Logic.{◌⊎◌, inl, inr}
use mathlib.Core.Option.{Option, none, some, map-eq-some_iff}
use Prim.Native.Nat.{ℕ, zero, suc, ◌+◌, ◌≤◌, ◌<◌}
use native.Mathlib.Omega.{arith}
use lib.ListN.{length, drop, get_or, length-append, take-append-drop}
use lib.Seq.{take-append_seam, drop-append_seam, length-take-le}
use lib.Dec.{leb, ltb, eqb}
use borrow.Author.Tests.{eqb-true, eq-eqb, leb-true, le-leb, ltb-true, lt-ltb}
use Rattle.model.specs.Lists.{all, given}
use Rattle.model.specs.Tlv.{Bytes, num, le, Tlv, Kind, get_info, register, sign, deregister, open_settings, Field, index, app_id, challenge_hash, username, attestation_type, access_token, key_handle, key_id_or_none, user_verify_token, transaction_content, tag_of, fits, Listed, mandatory, optional, fields_of, listed, child_ok, values_of, times_ok, children, kind_of, broken, fields_in, field_in}
use Rattle.model.specs.Commands.{Lent, Given, gave, outcome}
use Rattle.model.specs.Writer.{Values, one, marked, number, pieces, Wanted, to_get_info, to_register, to_sign, to_deregister, to_open_settings, wanted_kind, wanted_values, children_for, command_of, each_ok, writable, write_values, write_command, values_in, form_of}
use Rattle.model.proofs.Basics.{split, and_left, and_right, both, impossible, eq_bytes-eq, Each, each_same}
use Rattle.model.proofs.Numbers.{le-num, num_bound}
use Rattle.model.proofs.Tlvs.{Held, bytes-tlvs}
use Rattle.model.proofs.LayoutLaws.{fits-least, fits-most, fits-allowed}
use Rattle.model.proofs.Fields.{Unbroken, unbroken, values_fit, given-times, field_fits, CommandRules, command_rules}
use Rattle.model.proofs.Witness.{total, length-command}
use Rattle.model.proofs.Order.{SameValues, alike-call, command-length}
use Rattle.model.proofs.WriterLaws.{tags_differ, tags-differ, first_differs, Own, each-own, values_for, past-values, Written, written_of, written, writes, gave-command}

-- ---- the values of an accepted command obey the rules

module _ (fs : List Listed) (ts : List Tlv) (c : all (λ c. child_ok c (listed fs c.tag)) ts ≡ true) where
  children-each : (gs : List Listed) → Each (Own fs) gs → all (times_ok ts) gs ≡ true → each_ok gs (values_for gs ts) ≡ true
  unfolding each_ok
  children-each [] o t = refl
  children-each (g ∷ gs) (o, os) t =
      both (both (and_left (times_ok ts g) _ t) (values_fit fs g.field g o ts c)) (children-each gs os (and_right (times_ok ts g) _ t))

-- ---- and take no more room than they took

total-append : (ts us : List Tlv) → total (ts ++ us) ≡ total ts + total us
total-append [] us = omega arith
total-append (t ∷ ts) us = omega (arith, total-append ts us)

none_more : (fs : List Listed) → total (children_for fs (values_for fs [])) ≡ 0
unfolding children_for
none_more [] = refl
none_more (f ∷ fs) = none_more fs

-- a child more is one more value of at most one field
one_more : (fs : List Listed) (c : Tlv) (ts : List Tlv) → tags_differ fs ≡ true
    → total (children_for fs (values_for fs (c ∷ ts))) ≤ 4 + length c.value + total (children_for fs (values_for fs ts))
unfolding children_for
one_more [] c ts d = omega arith
one_more (f ∷ fs) c ts d =
    let (alone, rest) = first_differs f fs d in
    split (eqb c.tag (tag_of f.field))
    (λ e.
    let other : given (listed fs c.tag) ≡ false = rw (eqb-true c.tag (tag_of f.field) e) alone in
    rw (e, past-values c.tag (c.value ∷ []) ts fs other) (omega arith))
    (λ e. rw e (simp total-append (omega (arith, one_more fs c ts rest))))

form_total : (fs : List Listed) (ts : List Tlv) → tags_differ fs ≡ true → total (children_for fs (values_for fs ts)) ≤ total ts
form_total fs [] d = omega (arith, none_more fs)
form_total fs (c ∷ ts) d = omega (arith, one_more fs c ts d, form_total fs ts d)

-- ---- the form of an accepted command

pub record HasForm (k : Kind) (s : List ℕ) : Type 0 where
  -- the writer takes its values, and writes it into any output that is long enough
  pub passes : writable k (values_in k s) ≡ true
  pub again : (n : ℕ) → length (form_of k s) ≤ n → write_values k (values_in k s) n ≡ gave (form_of k s)
  -- it is a command of the kind, breaks no rule, and has the same values
  pub names : kind_of (form_of k s) ≡ some k
  pub breaks_none : broken k (form_of k s) ≡ false
  pub same-values : values_in k (form_of k s) ≡ values_in k s
  -- every call with it gives what it gives with the command itself
  pub same_effect : (l : Lent) (n : ℕ) (o : Option ℕ) (g : Given)
      → outcome (record { command = s; lent = l; output = n; table_output = o }) g
      ≡ outcome (record { command = form_of k s; lent = l; output = n; table_output = o }) g
  -- it is its own form, and no longer than the command
  pub stays : form_of k (form_of k s) ≡ form_of k s
  pub no_longer : length (form_of k s) ≤ length s

-- the same values, field by field
module _ (s u : List ℕ) where
  map_same : (fs : List Listed) → Each (λ f. fields_in f.field s ≡ fields_in f.field u) fs
      → map (λ f. some (fields_in f.field s)) fs ≡ map (λ f. some (fields_in f.field u)) fs
  map_same [] e = refl
  map_same (f ∷ fs) (e, es) = rw (e, map_same fs es)

  same_map : (fs : List Listed) → map (λ f. some (fields_in f.field s)) fs ≡ map (λ f. some (fields_in f.field u)) fs
      → Each (λ f. fields_in f.field s ≡ fields_in f.field u) fs
  same_map [] e = tt
  same_map (f ∷ fs) e = ((cc), same_map fs (cc))

values_held : (k : Kind) (s : List ℕ) (ts : List Tlv) → children s ≡ some ts → values_in k s ≡ values_for (fields_of k) ts
unfolding values_in fields_in
values_held k s ts e = rw e

form_shorter : (k : Kind) (s : List ℕ) → broken k s ≡ false → length (form_of k s) ≤ length s
unfolding form_of command_of
form_shorter k s b =
    let u : Unbroken k s = unbroken k s b in
    rw (length-command, command-length s u.held u.read, values_held k s u.held u.read)
    (omega (arith, form_total (fields_of k) u.held (tags-differ k)))

form_passes : (k : Kind) (s : List ℕ) → broken k s ≡ false → writable k (values_in k s) ≡ true
unfolding writable form_of
form_passes k s b =
    let u : Unbroken k s = unbroken k s b in
    let fs : List Listed = fields_of k in
    let c = children-each fs u.held u.child fs (each-own fs (tags-differ k)) u.times in
    let e : each_ok fs (values_in k s) ≡ true = rw (values_held k s u.held u.read) c in
    both e (le-leb (length (form_of k s)) 8192 (omega (arith, form_shorter k s b, (command_rules k s b).short)))

form-written : (k : Kind) (s : List ℕ) → broken k s ≡ false → Written k (values_in k s) (form_of k s)
unfolding form_of
form-written k s b = written_of k (values_in k s) (form_passes k s b)

pub has_form : (k : Kind) (s : List ℕ) → kind_of s ≡ some k → broken k s ≡ false → HasForm k s
unfolding form_of values_in
has_form k s n b =
    let w : Written k (values_in k s) (form_of k s) = form-written k s b in
    let v : SameValues k s (form_of k s) = same_map s (form_of k s) (fields_of k) (sym w.yields) in
    record {
      passes = form_passes k s b;
      again = λ m h. writes k (values_in k s) m (form_passes k s b) h;
      names = w.names;
      breaks_none = w.breaks_none;
      same-values = w.yields;
      same_effect = λ l m o g. alike-call k s (form_of k s) (b ∙ sym w.breaks_none) v l m o g (n ∙ sym w.names) (rw n);
      stays = ap (command_of k) w.yields;
      no_longer = form_shorter k s b;
    }

-- ---- the same form: the same kind and the same values

pub one_form : (j k : Kind) (s u : List ℕ) → broken j s ≡ false → broken k u ≡ false → form_of j s ≡ form_of k u → (j ≡ k) × SameValues j s u
unfolding values_in
one_form j k s u b c e =
    let f : Written j (values_in j s) (form_of j s) = form-written j s b in
    let g : Written k (values_in k u) (form_of k u) = form-written k u c in
    let q : some j ≡ some k = sym f.names ∙ ap kind_of e ∙ g.names in
    let i : j ≡ k = cc in
    let v : values_in j (form_of k u) ≡ values_in j u = rw i g.yields in
    (i, same_map s u (fields_of j) (sym f.yields ∙ ap (values_in j) e ∙ v))

pub same-form : (k : Kind) (s u : List ℕ) → SameValues k s u → form_of k s ≡ form_of k u
unfolding form_of values_in
same-form k s u e = ap (command_of k) (map_same s u (fields_of k) e)

-- to be given and empty is not the same as not to be given: commands of one form do not differ so in any field
pub empty-is-given : (k : Kind) (s u : List ℕ) → broken k s ≡ false → broken k u ≡ false → form_of k s ≡ form_of k u
    → Each (λ f. fields_in f.field s ≡ [] → fields_in f.field u ≡ [] ∷ [] → ⊥) (fields_of k)
empty-is-given k s u b c e =
    each_same (λ f. fields_in f.field s ≡ fields_in f.field u) _ (λ f v p q. impossible cc) (fields_of k) (one_form k k s u b c e).1

-- ---- what is lent for a field, in words

-- a mark is 0 or 1, a number is of 16 bits
pub marked_means : (m : ℕ) (v : List ℕ) (vs : List (List ℕ)) → marked m v ≡ some vs → ((m ≡ 0) × (vs ≡ [])) ⊎ ((m ≡ 1) × (vs ≡ v ∷ []))
unfolding marked
marked_means m v vs e =
    split (eqb m 0)
    (λ p. inl (eqb-true m 0 p, (cc)))
    (λ p. split (eqb m 1) (λ q. inr (eqb-true m 1 q, (cc))) (λ q. impossible cc))

pub number_means : (n : ℕ) (vs : List (List ℕ)) → number n ≡ some vs → (n < 65536) × (vs ≡ le 2 n ∷ [])
unfolding number
number_means n vs e = split (ltb n 65536) (λ p. (ltb-true n 65536 p, (cc))) (λ p. impossible cc)

-- the stretch in which several values run together
abbrev pub together : List (List ℕ) → List ℕ
together [] = []
together (v ∷ vs) = v ++ together vs

-- pieces of these lengths are in a stretch exactly where they run together to it
pub pieces_together : (vs : List (List ℕ)) → pieces (map length vs) (together vs) ≡ some vs
unfolding pieces
pieces_together [] = refl
pieces_together (v ∷ vs) =
    rw (
      le-leb (length v) (length (v ++ together vs)) (simp length-append (omega arith)),
      take-append_seam v (together vs),
      drop-append_seam v (together vs),
      pieces_together vs,
    )

pub pieces_are : (ns s : List ℕ) (vs : List (List ℕ)) → pieces ns s ≡ some vs → (map length vs ≡ ns) × (together vs ≡ s)
unfolding pieces
pieces_are [] [] vs e = let q : ◌≡◌ {A = List (List ℕ)} [] vs = cc in rw (← q) (refl, refl)
pieces_are [] (b ∷ s) vs e = impossible cc
pieces_are (n ∷ ns) s vs e =
    split (leb n (length s))
    (λ l.
    let m = (map-eq-some_iff _ _).0 (rw l at e) in
    let (p, q) = pieces_are ns (drop n s) m.0 m.1 in
    rw (← m.2) (rw (length-take-le n s (leb-true _ _ l), p), rw q (take-append-drop n s)))
    (λ l. let g : none ≡ some vs = rw l at e in impossible cc)

-- ---- what the writers write

-- it is a command that is its own form
pub own-form : (w : Wanted) (n : ℕ) (s : List ℕ) → write_command w n ≡ gave s
    → (kind_of s ≡ some (wanted_kind w)) × (broken (wanted_kind w) s ≡ false) × (form_of (wanted_kind w) s ≡ s)
unfolding form_of
own-form w n s e =
    let r : Written (wanted_kind w) (wanted_values w) s = written (wanted_kind w) (wanted_values w) n s e in
    (r.names, r.breaks_none, rw r.yields (gave-command (wanted_kind w) (wanted_values w) n s e).2)

-- with the values of a command it is the form of that command, so there is one only
pub only-form : (w : Wanted) (n : ℕ) (s u : List ℕ) → write_command w n ≡ gave u → SameValues (wanted_kind w) s u → u ≡ form_of (wanted_kind w) s
only-form w n s u e v = sym (same-form (wanted_kind w) s u v ∙ (own-form w n u e).2)

-- ---- and all that they write: the values of every accepted command can be lent to them

one-given : (vs : List (List ℕ)) → 1 ≤ length vs → length vs ≤ 1 → one (get_or vs 0 []) ≡ some vs
one-given [] h k = absurd (omega arith)
one-given (v ∷ []) h k = refl
one-given (v ∷ w ∷ vs) h k = absurd (omega arith)

marked-given : (vs : List (List ℕ)) → length vs ≤ 1 → marked (length vs) (get_or vs 0 []) ≡ some vs
unfolding marked
marked-given [] k = refl
marked-given (v ∷ []) k = refl
marked-given (v ∷ w ∷ vs) k = absurd (omega arith)

number-given : (v : List ℕ) → Bytes v → length v ≡ 2 → number (num v) ≡ one v
unfolding number
number-given v b n =
    let h : num v < 65536 = rw n at (num_bound v b) in
    let e : le 2 (num v) ≡ v = rw n at (le-num v b) in
    rw (lt-ltb _ _ h, e)

module _ (k : Kind) (s : List ℕ) (b : broken k s ≡ false) (f : Field) where
  must : listed (fields_of k) (tag_of f) ≡ some (mandatory f) → one (field_in f s) ≡ some (fields_in f s)
  unfolding field_in fields_in
  must h =
      let t = given-times k s f b (mandatory f) h in
      let n : ℕ = length (fields_in f s) in
      one-given (fields_in f s) (leb-true _ _ (and_left (leb 1 n) (leb n 1) t)) (leb-true _ _ (and_right (leb 1 n) (leb n 1) t))

  may : listed (fields_of k) (tag_of f) ≡ some (optional f) → marked (length (fields_in f s)) (field_in f s) ≡ some (fields_in f s)
  unfolding field_in fields_in
  may h =
      let t = given-times k s f b (optional f) h in
      let n : ℕ = length (fields_in f s) in
      marked-given (fields_in f s) (leb-true _ _ (and_right (leb 0 n) (leb n 1) t))

-- the index is 0
index-zero : (k : Kind) (s : List ℕ) → broken k s ≡ false → listed (fields_of k) (tag_of index) ≡ some (mandatory index)
    → one (0 ∷ []) ≡ some (fields_in index s)
index-zero k s b h =
    let e : 0 ∷ [] ≡ field_in index s = eq_bytes-eq _ _ (fits-allowed index (field_in index s) (field_fits k s index b h)) in
    rw e (must k s b index h)

-- the values of a command of bytes are bytes
bytes_drop : (n : ℕ) (s : List ℕ) → Bytes s → Bytes (drop n s)
bytes_drop zero s h = h
bytes_drop (suc n) [] h = tt
bytes_drop (suc n) (b ∷ s) (h, hs) = bytes_drop n s hs

value-bytes : (f : Field) (ts : List Tlv) → Held ts → Bytes (get_or (values_of f ts) 0 [])
value-bytes f [] h = tt
value-bytes f (t ∷ ts) (h, hs) = split (eqb t.tag (tag_of f)) (λ e. rw e h) (λ e. rw e (value-bytes f ts hs))

field-bytes : (k : Kind) (s : List ℕ) → broken k s ≡ false → Bytes s → (f : Field) → Bytes (field_in f s)
unfolding field_in fields_in children
field-bytes k s b h f =
    let r : CommandRules k s = command_rules k s b in
    rw (eq-eqb _ _ r.ends, r.run) (value-bytes f r.held (bytes-tlvs (drop 4 s) r.held (bytes_drop 4 s h) r.run).held)

type-given : (s : List ℕ) → Bytes s → broken register s ≡ false
    → number (num (field_in attestation_type s)) ≡ some (fields_in attestation_type s)
type-given s h b =
    let v : List ℕ = field_in attestation_type s in
    let z : fits attestation_type v ≡ true = field_fits register s attestation_type b refl in
    let n : length v ≡ 2 = omega (arith, fits-least attestation_type v z, fits-most attestation_type v z) in
    number-given v (field-bytes register s b h attestation_type) n ∙ must register s b attestation_type refl

-- what a writer may be lent for these values
pub record Asked (k : Kind) (vss : List Values) : Type 0 where
  pub wanted : Wanted
  pub kind : wanted_kind wanted ≡ k
  pub says : wanted_values wanted ≡ vss

pub asked : (k : Kind) (s : List ℕ) → Bytes s → broken k s ≡ false → Asked k (values_in k s)
unfolding values_in
asked get_info s h b = record { wanted = to_get_info; kind = refl; says = refl }
asked register s h b =
    record {
      wanted =
          to_register (length (fields_in app_id s)) (field_in app_id s) (field_in challenge_hash s) (field_in username s)
          (num (field_in attestation_type s)) (field_in access_token s) (length (fields_in user_verify_token s)) (field_in user_verify_token s);
      kind = refl;
      says =
          rw (
            index-zero register s b refl,
            may register s b app_id refl,
            must register s b challenge_hash refl,
            must register s b username refl,
            type-given s h b,
            must register s b access_token refl,
            may register s b user_verify_token refl,
          );
    }
asked sign s h b =
    record {
      wanted =
          to_sign (length (fields_in app_id s)) (field_in app_id s) (field_in challenge_hash s) (length (fields_in transaction_content s))
          (field_in transaction_content s) (field_in access_token s) (length (fields_in user_verify_token s)) (field_in user_verify_token s)
          (together (fields_in key_handle s)) (map length (fields_in key_handle s));
      kind = refl;
      says =
          rw (
            index-zero sign s b refl,
            may sign s b app_id refl,
            must sign s b challenge_hash refl,
            may sign s b transaction_content refl,
            must sign s b access_token refl,
            may sign s b user_verify_token refl,
            pieces_together (fields_in key_handle s),
          );
    }
asked deregister s h b =
    record {
      wanted = to_deregister (length (fields_in app_id s)) (field_in app_id s) (field_in key_id_or_none s) (field_in access_token s);
      kind = refl;
      says =
          rw (
            index-zero deregister s b refl,
            may deregister s b app_id refl,
            must deregister s b key_id_or_none refl,
            must deregister s b access_token refl,
          );
    }
asked open_settings s h b = record { wanted = to_open_settings; kind = refl; says = rw (index-zero open_settings s b refl) }

-- a command that the writer of its kind writes, lent the right fields, into any output that is long enough
pub record InRange (k : Kind) (s : List ℕ) : Type 0 where
  pub wanted : Wanted
  pub kind : wanted_kind wanted ≡ k
  pub writes_it : (n : ℕ) → length s ≤ n → write_command wanted n ≡ gave s

-- the form of every accepted command is one, and so is every accepted command that is its own form
pub form_in_range : (k : Kind) (s : List ℕ) → Bytes s → broken k s ≡ false → InRange k (form_of k s)
unfolding form_of
form_in_range k s h b =
    let a : Asked k (values_in k s) = asked k s h b in
    record {
      wanted = a.wanted;
      kind = a.kind;
      writes_it = λ n m. rw (a.kind, a.says) (writes k (values_in k s) n (form_passes k s b) m);
    }

pub in_range : (k : Kind) (s : List ℕ) → Bytes s → broken k s ≡ false → form_of k s ≡ s → InRange k s
in_range k s h b e = rw e at (form_in_range k s h b)
