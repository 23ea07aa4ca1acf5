use Rattle.std.specs.Prelude.{ℕ, suc}
use Rattle.std.proofs.Common.{◌≡◌, ◌+◌, ◌-◌, ◌++◌, length, sym, ap, ◌∙◌, subst, arith}
use Rattle.es_tree_sites.specs.Named.{Unnamed}
use Rattle.es_tree_sites.specs.Parts.{part_in}
use Rattle.es_tree_sites.specs.Plan.{on}
use Rattle.es_tree_sites.specs.Left.{left_sites, ahead, names_itself, weight}
use Rattle.es_tree_sites.proofs.NamedLemmas.{item_none}
use Rattle.es_tree_sites.proofs.LeftLemmas.{ahead_more, weight_more, heads_size, item_unnamed, parts_unnamed, behind_unnamed, inside_unnamed, skip_step, enter_step}
use Rattle.es_tree_sites.proofs.source.TokenizedText.go_down.Goals as goal

-- what is passed over adds nothing
pub loop-first-preserved-then-before-size : goal.loop-first-preserved-then-before-size
loop-first-preserved-then-before-size c =
    let f = c.in-Some.first in
    let es = c.loop-first.here.parts.entries.now in
    let h = c.in-Some.ensures.entries in
    let n = c.loop-first.before in
    let m = n - length f.item.parts.entries.now - 1 in
    let is : n ≡ suc (length f.item.parts.entries.now + m) = omega (arith, c.if-before-size.true) in
    let u = c.loop-first.invariant.2 in
    let size = heads_size es f.item f.behind.parts h in (
      skip_step c.loop-first.found (on f.way (part_in c.args.self.now f.item)) (left_sites c.args.self.now f.behind)
          (left_sites c.args.self.now c.loop-first.here) (ahead c.args.self.now c.loop-first.around) _
          c.in-Some.ensures.sites
          (item_none c.args.self.now.text.now c.args.self.now.tokens.now f.way f.item.what f.item.from f.item.to
          f.item.parts.entries.now (item_unnamed es f.item f.behind.parts h n m u is)
          (parts_unnamed es f.item f.behind.parts h n m u is))
          c.loop-first.invariant.0,
      omega (arith, size, c.loop-first.invariant.1),
      behind_unnamed es f.item f.behind.parts h n m u is,
    )

-- the node that can name a module: its parts are left
pub returns-then-before-eq0-clause-sites : goal.returns-then-before-eq0-clause-sites
returns-then-before-eq0-clause-sites c =
    let f = c.in-Some.first in
    ap (λ k. c.name_itself.new.found ++ k)
    (ap (ahead c.args.self.now) c.in_ok-push-2.ensures.ok
    ∙ ahead_more c.args.self.now c.push.new.self c.inside-here.result)
    ∙ enter_step c.loop-first.found c.name_itself.new.found (names_itself c.args.self.now f.way f.item)
    (left_sites c.args.self.now c.inside-here.result) (on f.way (part_in c.args.self.now f.item))
    (left_sites c.args.self.now f.behind) (left_sites c.args.self.now c.loop-first.here)
    (ahead c.args.self.now c.loop-first.around) (ahead c.args.self.now c.push.new.self) _
    c.in-Some.ensures.sites c.inside-here.ensures.sites c.in_ok-name_itself.ensures
    (ap (ahead c.args.self.now) c.in_ok-push.ensures.ok ∙ ahead_more c.args.self.now c.loop-first.around f.behind)
    c.loop-first.invariant.0

pub returns-then-before-eq0-clause-less : goal.returns-then-before-eq0-clause-less
returns-then-before-eq0-clause-less c =
    let f = c.in-Some.first in
    let size = heads_size c.loop-first.here.parts.entries.now f.item f.behind.parts c.in-Some.ensures.entries in
    let behind = ap weight c.in_ok-push.ensures.ok ∙ weight_more c.loop-first.around f.behind in
    let inner = ap weight c.in_ok-push-2.ensures.ok ∙ weight_more c.push.new.self c.inside-here.result in
    let parts = ap length c.inside-here.ensures.parts in
    omega (arith, size, behind, inner, parts, c.loop-first.invariant.1)

-- a node around it
pub loop-first-preserved : goal.loop-first-preserved
loop-first-preserved c =
    let f = c.in-Some.first in
    let es = c.loop-first.here.parts.entries.now in
    let h = c.in-Some.ensures.entries in
    let m = c.loop-first.before - 1 in
    let is : c.loop-first.before ≡ suc m = omega (arith, c.if-before-eq0.false) in
    let size = heads_size es f.item f.behind.parts h in
    let behind = ap weight c.in_ok-push.ensures.ok ∙ weight_more c.loop-first.around f.behind in
    let parts = ap length c.inside-here.ensures.parts in (
      enter_step c.loop-first.found c.name_itself.new.found (names_itself c.args.self.now f.way f.item)
          (left_sites c.args.self.now c.inside-here.result) (on f.way (part_in c.args.self.now f.item))
          (left_sites c.args.self.now f.behind) (left_sites c.args.self.now c.loop-first.here)
          (ahead c.args.self.now c.loop-first.around) (ahead c.args.self.now c.push.new.self) _
          c.in-Some.ensures.sites c.inside-here.ensures.sites c.in_ok-name_itself.ensures
          (ap (ahead c.args.self.now) c.in_ok-push.ensures.ok
          ∙ ahead_more c.args.self.now c.loop-first.around f.behind)
          c.loop-first.invariant.0,
      omega (arith, size, behind, parts, c.loop-first.invariant.1),
      subst (λ r. Unnamed m r) (sym c.inside-here.ensures.parts)
          (inside_unnamed es f.item f.behind.parts h c.loop-first.before m c.loop-first.invariant.2 is),
    )
