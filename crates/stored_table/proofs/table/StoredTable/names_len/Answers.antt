-- Each record that is named has a place; and the sum is few bytes.
use mathlib.Core.Path.{◌∙◌}
use Prim.Native.Nat.{◌<◌}
use native.Mathlib.Omega.{arith}
use lib.ListN.{length, get_or}
use Rattle.std.proofs.Common.{rules, tests}
use Rattle.std.proofs.lemmas.Iterator.{YieldsList-from_slice, YieldsList-from_map}
use Rattle.std.proofs.lemmas.Iterator.Adapters.{serves_from_places}
use Rattle.std.proofs.lemmas.Iterator.Consumers.{YieldsList-at, sum_by_from_yields_List, fits_by_from_yields_list}
use Rattle.stored_table.specs.Stored.{Stands}
use Rattle.stored_table.proofs.NameLaws.{size_at, named_item, names-sum, names-most}
use Rattle.stored_table.proofs.table.StoredTable.names_len.Goals as goal

pub sum-requires-clause-can : goal.sum-requires-clause-can
sum-requires-clause-can c = (
  tt,
  serves_from_places (YieldsList-from_slice c.args.named.now cc) (λ x q k. search (rules, tests)) (λ x k h e.
      let n = named_item c.self.invariant c.self.view_is c.requires x.now k h e in
      let near = n.near in
      let within : x.now < length c.map.result.f.1.now = rw c.map.ensures.closure n.within in
      let stands : Stands c.map.result.f.0.now (get_or c.map.result.f.1.now x.now 0) = rw c.map.ensures.closure n.stands in
      search (rules, tests)),
)

pub sum-requires-clause-fits : goal.sum-requires-clause-fits
sum-requires-clause-fits c =
    fits_by_from_yields_list _ _ c.map.result _
    (YieldsList-from_map _ (size_at c.self.inside.bytes.now c.self.inside.places.now)
    (YieldsList-at c.map.ensures.source (YieldsList-from_slice c.args.named.now cc)) c.map.ensures.closure (λ x r q k. search (rules, tests)))
    (omega (arith, names-most c.self.invariant c.self.view_is c.requires))

pub returns : goal.returns
returns c =
    let sum =
    sum_by_from_yields_List _ _ c.map.result _ c.sum.ensures.ran
    (YieldsList-from_map _ (size_at c.self.inside.bytes.now c.self.inside.places.now)
    (YieldsList-at c.map.ensures.source (YieldsList-from_slice c.args.named.now cc)) c.map.ensures.closure (λ x r q k. search (rules, tests))) in
    (sum ∙ names-sum c.self.invariant c.self.view_is c.requires, omega (arith, sum, names-most c.self.invariant c.self.view_is c.requires))
