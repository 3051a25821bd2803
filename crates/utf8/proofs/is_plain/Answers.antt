-- Joined byte by byte, the highest bit of one stays.
use Rattle.std.proofs.Common.{◌≡◌, ◌+◌, ◌-◌, take, drop, bit_or, fold, rules}
use Rattle.utf8.proofs.CodeLaws.{plain-joined}
use Rattle.utf8.proofs.is_plain.Goals as goal

pub returns : goal.returns
returns c =
    let a = c.args in
    let e : c.fold.result ≡ fold (λ any b. bit_or any b) 0 (take (a.at + a.n - a.at) (drop a.at a.s.now)) = search rules in
    plain-joined a.s.now a.at a.n _ c.requires e
