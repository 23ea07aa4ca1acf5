use Rattle.std.proofs.Common.{◌≡◌, ◌-◌, suc, take, get_or, subst, arith, rules, ℕ, List}
use Rattle.import_map.specs.Fronts.{IsCut, IsCommon}
use Rattle.import_map.proofs.FrontsLemmas.{none_upto, fronts_within}
use Rattle.import_map.proofs.fronts.longest_front.Goals as goal

pub returns-then-count-eq0-clause-fronts : goal.returns-then-count-eq0-clause-fronts
returns-then-count-eq0-clause-fronts g c =
    none_upto c.args.table.now c.args.text.now c.args.end c.requires.within
    (subst (λ (n : ℕ). IsCut c.args.table.now (take c.args.end c.args.text.now) n n) c.if-count-eq0.true
    c.upto-count.ensures)

pub returns-clause-fronts : goal.returns-clause-fronts
returns-clause-fronts g c =
    let on : c.upto-count.result ≡ suc (c.upto-count.result - 1) = omega (arith, c.if-count-eq0.false) in
    let key : c.as_bytes.result.now
    ≡ (get_or c.args.table.now (c.upto-count.result - 1) c.index-table-count.result).0 = search rules in
    fronts_within c.args.table.now c.args.text.now c.args.end (c.upto-count.result - 1) c.common.result
    c.index-table-count.result c.requires.in_order c.requires.within
    (subst (λ (n : ℕ). IsCut c.args.table.now (take c.args.end c.args.text.now) n n) on c.upto-count.ensures)
    (subst (λ (a : List ℕ). IsCommon a (take c.args.end c.args.text.now) c.common.result) key c.common.ensures.common)
