-- What is decided depends only on whether a rule is broken and on the values of the fields that the command lists. So "Children may come in any
-- order": the order of children with different tags changes nothing.
-- Assumes nothing.
use mathlib.Core.Path.{◌≡◌, refl, sym, ◌∙◌}
use mathlib.Core.Bool.{Bool, true, false, not, ◌&&◌}
use mathlib.Core.List.{List, [], ◌∷◌, ◌++◌}
use mathlib.Core.Option.{Option, none, some, get_or, map-eq-some_iff}
use Prim.Native.Nat.{ℕ, zero, suc, ◌+◌, ◌≤◌}
use native.Mathlib.Omega.{arith}
use lib.ListN.{length, take, drop, length-drop}
use lib.Seq.{length-take-le}
use lib.Dec.{eqb}
use borrow.Author.Tests.{eqb-true}
use Rattle.model.specs.Lists.{all}
use Rattle.model.specs.Tlv.{num, Tlv, tlvs_past, Kind, get_info, register, sign, deregister, open_settings, Field, app_id, challenge_hash, username, attestation_type, access_token, key_id_or_none, transaction_content, Listed, fields_of, tag_of, kind_of, fills, max_command, child_ok, listed, values_of, times_ok, children_ok, children, broken, fields_in, field_in}
use Rattle.model.specs.Records.{Table}
use Rattle.model.specs.Commands.{Lent, Call, Given, mixed_in, decide_get_info, register_draft, register_checks, decide_register, has_content, sign_draft, sign_one, sign_chosen, decide_sign, decide_deregister, decide_open_settings, decide, perform, refusals, outcome}
use Rattle.model.specs.Traces.{has_token}
use Rattle.model.specs.Writer.{command}
use Rattle.model.proofs.Basics.{split, impossible, and_left, Each, each_of}
use Rattle.model.proofs.Tlvs.{Sized}
use Rattle.model.proofs.HashLaws.{mixed-alike, hash_alike, strangers_perform}
use Rattle.model.proofs.Witness.{total, children-command}

-- ---- the same rules kept or broken, and the same values of the listed fields

abbrev pub SameValues : Kind → List ℕ → List ℕ → Type 0
SameValues k s u = Each (λ f. fields_in f.field s ≡ fields_in f.field u) (fields_of k)

module _ (s u : List ℕ) where
  first_alike : (f : Field) → fields_in f s ≡ fields_in f u → field_in f s ≡ field_in f u
  unfolding field_in
  first_alike f e = rw e

  chosen-alike : fields_in challenge_hash s ≡ fields_in challenge_hash u → fields_in transaction_content s ≡ fields_in transaction_content u
      → (l : Lent) (rs : Table) → sign_chosen s l rs ≡ sign_chosen u l rs
  unfolding sign_chosen sign_one sign_draft has_content
  chosen-alike c t l [] = refl
  chosen-alike c t l (r ∷ []) =
      rw (hash_alike s u (first_alike transaction_content t), first_alike transaction_content t, first_alike challenge_hash c)
  chosen-alike c t l (r ∷ q ∷ rs) = refl

pub alike : (k : Kind) (s u : List ℕ) → broken k s ≡ broken k u → SameValues k s u → (l : Lent) (mine : Table) (taken filled : Bool)
    → decide k s l mine taken filled ≡ decide k u l mine taken filled
unfolding decide decide_get_info register_draft register_checks decide_register decide_sign decide_deregister decide_open_settings
alike get_info s u b v l mine taken filled = rw b
alike register s u b (i, (a, (c, (n, (t, v))))) l mine taken filled =
    rw (b, first_alike s u attestation_type t, first_alike s u challenge_hash c, first_alike s u username n)
alike sign s u b (i, (a, (c, (t, (k, (w, (h, v))))))) l mine taken filled = rw (b, h, chosen-alike s u c t l)
alike deregister s u b (i, (a, (k, v))) l mine taken filled = rw (b, first_alike s u key_id_or_none k)
alike open_settings s u b v l mine taken filled = rw b

-- the mixed token too, where there is one
mixed-same : (k : Kind) (s u : List ℕ) → SameValues k s u → has_token k ≡ true → mixed_in s ≡ mixed_in u
mixed-same get_info s u v h = impossible cc
mixed-same register s u (i, (a, (c, (n, (t, (k, v)))))) h = mixed-alike s u (first_alike s u access_token k) (first_alike s u app_id a)
mixed-same sign s u (i, (a, (c, (t, (k, v))))) h = mixed-alike s u (first_alike s u access_token k) (first_alike s u app_id a)
mixed-same deregister s u (i, (a, (j, (k, v)))) h = mixed-alike s u (first_alike s u access_token k) (first_alike s u app_id a)
mixed-same open_settings s u v h = impossible cc

alike-perform : (k : Kind) (s u : List ℕ) → broken k s ≡ broken k u → SameValues k s u → (l : Lent) (n : ℕ) (o : Option ℕ) (t : Table)
    → perform k (record { command = s; lent = l; output = n; table_output = o }) t
    ≡ perform k (record { command = u; lent = l; output = n; table_output = o }) t
alike-perform k s u b v l n o t =
    let c : Call = record { command = s; lent = l; output = n; table_output = o } in
    let d : Call = record { command = u; lent = l; output = n; table_output = o } in
    split (has_token k && not (broken k s))
    (λ h. unfold perform in rw (mixed-same k s u v (and_left (has_token k) _ h), alike k s u b v))
    (λ h. let e : (has_token k && not (broken k u)) ≡ false = rw (← b) h in
    rw (strangers_perform k c h t, strangers_perform k d e t, alike k s u b v))

-- so a call with the one command gives what it gives with the other; one that names no kind is taken for GetInfo and refused
pub alike-call : (k : Kind) (s u : List ℕ) → broken k s ≡ broken k u → SameValues k s u → (l : Lent) (n : ℕ) (o : Option ℕ) (g : Given)
    → kind_of s ≡ kind_of u → get_or (kind_of s) get_info ≡ k
    → outcome (record { command = s; lent = l; output = n; table_output = o }) g
    ≡ outcome (record { command = u; lent = l; output = n; table_output = o }) g
unfolding outcome refusals
alike-call k s u b v l n o g e f = rw (← e, f, alike-perform k s u b v l n o)

-- ---- other orders

-- a run of children and another order of it: neighbours with different tags are exchanged, as often as one likes
pub data Reordered : List Tlv → List Tlv → Type 0 where
  as_it_was : {ts : List Tlv} → Reordered ts ts
  exchanged : (a : List Tlv) (x y : Tlv) (b : List Tlv) {us : List Tlv} → (x.tag ≡ y.tag → ⊥) → Reordered (a ++ (y ∷ x ∷ b)) us
      → Reordered (a ++ (x ∷ y ∷ b)) us

-- ---- two neighbours exchanged

module _ (x y : Tlv) (b : List Tlv) where
  all_exchanged : (p : Tlv → Bool) (a : List Tlv) → all p (a ++ (x ∷ y ∷ b)) ≡ all p (a ++ (y ∷ x ∷ b))
  all_exchanged p [] =
      split (p x) (λ e. split (p y) (λ f. rw (e, f)) (λ f. rw (e, f))) (λ e. split (p y) (λ f. rw (e, f)) (λ f. rw (e, f)))
  all_exchanged p (z ∷ a) = rw (all_exchanged p a)

  total_exchanged : (a : List Tlv) → total (a ++ (x ∷ y ∷ b)) ≡ total (a ++ (y ∷ x ∷ b))
  total_exchanged [] = omega arith
  total_exchanged (z ∷ a) = omega (arith, total_exchanged a)

  values_exchanged : (f : Field) → (x.tag ≡ y.tag → ⊥) → (a : List Tlv)
      → values_of f (a ++ (x ∷ y ∷ b)) ≡ values_of f (a ++ (y ∷ x ∷ b))
  values_exchanged f n [] =
      split (eqb x.tag (tag_of f))
      (λ e. split (eqb y.tag (tag_of f)) (λ g. absurd (n (eqb-true _ _ e ∙ sym (eqb-true _ _ g)))) (λ g. rw (e, g)))
      (λ e. split (eqb y.tag (tag_of f)) (λ g. rw (e, g)) (λ g. rw (e, g)))
  values_exchanged f n (z ∷ a) =
      let ih = values_exchanged f n a in
      split (eqb z.tag (tag_of f)) (λ e. rw (e, ih)) (λ e. rw (e, ih))

-- ---- any order

all_alike : {A : Type 0} (p q : A → Bool) → ((x : A) → p x ≡ q x) → (xs : List A) → all p xs ≡ all q xs
all_alike p q f [] = refl
all_alike p q f (x ∷ xs) = cc (f x, all_alike p q f xs)

-- the values of every field, in their order
pub values_reordered : (f : Field) {ts us : List Tlv} → Reordered ts us → values_of f ts ≡ values_of f us
values_reordered f as_it_was = refl
values_reordered f (exchanged a x y b n r) = values_exchanged x y b f n a ∙ values_reordered f r

total_reordered : {ts us : List Tlv} → Reordered ts us → total ts ≡ total us
total_reordered as_it_was = refl
total_reordered (exchanged a x y b n r) = total_exchanged x y b a ∙ total_reordered r

each_reordered : (p : Tlv → Bool) {ts us : List Tlv} → Reordered ts us → all p ts ≡ all p us
each_reordered p as_it_was = refl
each_reordered p (exchanged a x y b n r) = all_exchanged x y b p a ∙ each_reordered p r

-- whether they are allowed, and given as often as they must and may be
pub children_reordered : (fs : List Listed) {ts us : List Tlv} → Reordered ts us → children_ok fs ts ≡ children_ok fs us
unfolding children_ok
children_reordered fs {ts} {us} r =
    let c = each_reordered (λ c. child_ok c (listed fs c.tag)) r in
    let t = all_alike (times_ok ts) (times_ok us) (λ f. rw (values_reordered f.field r)) fs in
    cc

-- ---- the command

-- a run is as long as its TLVs with their headers
run_length : (k : ℕ) (s : List ℕ) (ts : List Tlv) → tlvs_past k s ≡ some ts → length s ≡ k + total ts
unfolding tlvs_past
run_length zero [] ts e = let q : ◌≡◌ {A = List Tlv} [] ts = cc in rw (← q)
run_length zero (a ∷ []) ts e = impossible cc
run_length zero (a ∷ b ∷ []) ts e = impossible cc
run_length zero (a ∷ b ∷ c ∷ []) ts e = impossible cc
run_length zero (a ∷ b ∷ c ∷ d ∷ s) ts e =
    let m = (map-eq-some_iff _ _).0 e in
    let n : ℕ = num (c ∷ d ∷ []) in
    let l : length s ≡ n + total m.0 = run_length n s m.0 m.1 in
    let t : length (take n s) ≡ n = length-take-le n s (omega arith) in
    rw (← m.2) (omega (arith, l, t))
run_length (suc k) [] ts e = impossible cc
run_length (suc k) (x ∷ s) ts e = omega (arith, run_length k s ts e)

pub command-length : (s : List ℕ) (ts : List Tlv) → children s ≡ some ts → length s ≡ 4 + total ts
unfolding children
command-length s ts e =
    split (fills s)
    (λ f.
    let n : 4 + num (take 2 (drop 2 s)) ≡ length s = eqb-true _ _ f in
    let l : length (drop 4 s) ≡ 0 + total ts = run_length 0 (drop 4 s) ts (rw f at e) in
    omega (arith, n, l, length-drop 4 s))
    (λ f. let g : none ≡ some ts = rw f at e in impossible cc)

module _ (s u : List ℕ) {ts us : List Tlv} (a : children s ≡ some ts) (b : children u ≡ some us) (r : Reordered ts us) where
  -- both break a rule, or none does
  pub broken_reordered : (k : Kind) → broken k s ≡ broken k u
  unfolding broken
  broken_reordered k =
      let n : length s ≡ length u = omega (arith, command-length s ts a, command-length u us b, total_reordered r) in
      rw (a, b, n, children_reordered (fields_of k) r)

  pub fields_reordered : (f : Field) → fields_in f s ≡ fields_in f u
  unfolding fields_in
  fields_reordered f = rw (a, b) (values_reordered f r)

  -- and what is decided is the same, whatever is lent and whatever the table
  pub any_order : (k : Kind) (l : Lent) (mine : Table) (taken filled : Bool) → decide k s l mine taken filled ≡ decide k u l mine taken filled
  any_order k = alike k s u (broken_reordered k) (each_of _ (λ f. fields_reordered f.field) (fields_of k))

  -- so a call with the one command gives what it gives with the other
  pub any_order_call : (l : Lent) (n : ℕ) (o : Option ℕ) (g : Given) → kind_of s ≡ kind_of u
      → outcome (record { command = s; lent = l; output = n; table_output = o }) g
      ≡ outcome (record { command = u; lent = l; output = n; table_output = o }) g
  any_order_call l n o g e =
      let k : Kind = get_or (kind_of s) get_info in
      alike-call k s u (broken_reordered k) (each_of _ (λ f. fields_reordered f.field) (fields_of k)) l n o g e refl

-- ---- commands made of such children

sized_exchanged : (a : List Tlv) (x y : Tlv) (b : List Tlv) → Sized (a ++ (x ∷ y ∷ b)) → Sized (a ++ (y ∷ x ∷ b))
sized_exchanged [] x y b (t, n, (u, m, z)) = (u, m, (t, n, z))
sized_exchanged (w ∷ a) x y b (t, n, z) = (t, n, sized_exchanged a x y b z)

sized_reordered : {ts us : List Tlv} → Reordered ts us → Sized ts → Sized us
sized_reordered as_it_was z = z
sized_reordered (exchanged a x y b n r) z = sized_reordered r (sized_exchanged a x y b z)

-- each order of the children is a command, and all of them are decided alike
pub any_order_written : (k : Kind) {ts us : List Tlv} → Sized ts → 4 + total ts ≤ max_command → Reordered ts us → (l : Lent) (mine : Table)
    (taken filled : Bool) → decide k (command k ts) l mine taken filled ≡ decide k (command k us) l mine taken filled
any_order_written k {ts} {us} z m r l mine taken filled =
    any_order (command k ts) (command k us) (children-command k ts z m)
    (children-command k us (sized_reordered r z) (omega (arith, total_reordered r))) r k l mine taken filled
