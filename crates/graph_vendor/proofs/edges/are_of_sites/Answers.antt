use Rattle.std.proofs.Common.{arith}
use Rattle.std.proofs.lemmas.Bool.Decides.{nat_tests}
use Rattle.graph_vendor.proofs.RefusedLemmas.{of_sites_length}
use Rattle.graph_vendor.proofs.edges.are_of_sites.Goals as goal

-- lists of different lengths
pub returns-then-edges-sites : goal.returns-then-edges-sites
returns-then-edges-sites c = (
  λ e. absurd cc,
  λ h. absurd (let same = of_sites_length c.args.edges.now c.args.sites.now h in
      let test = c.if-edges-sites.true in let bad : ⊥ = grind (arith, nat_tests, same, test) in bad),
)
