use Rattle.std.specs.Prelude.{[], ◌∷◌}
use Rattle.std.proofs.Common.{◌≡◌, ◌++◌, sym, ap, ◌∙◌, arith}
use Rattle.std.proofs.lemmas.List.{append-nil}
use Rattle.es_tree_sites.specs.declared.source.TokenizedText.{TokenizedText}
use Rattle.es_tree_sites.specs.Left.{ahead, weight}
use Rattle.es_tree_sites.proofs.CutLemmas.{reads_cut}
use Rattle.es_tree_sites.proofs.WalkLemmas.{all_sites}
use Rattle.es_tree_sites.proofs.LeftLemmas.{ahead_none, ahead_one, ahead_more, weight_more}
use Rattle.es_tree_sites.proofs.walk.tree_sites.Goals as goal

-- the tokens cut the text
pub take-requires : goal.take-requires
take-requires c = reads_cut c.args.text.now c.args.tokens.now c.utf8.text c.requires

-- ---- what is left is what all trees have
pub loop-left-init : goal.loop-left-init
loop-left-init c =
    let source : TokenizedText = record { alloc = c.args.alloc; text = c.args.text; tokens = c.args.tokens } in
    ap (λ s. s ++ ahead source c.push.new.self) c.new-found.ensures
    ∙ ap (ahead source) (c.in_ok-push.ensures.ok
    ∙ ap (λ ls. ls ++ c.in_group.result ∷ []) (c.from_vec-around.ensures ∙ c.in_ok-with_capacity.ensures.items))
    ∙ ahead_one source c.in_group.result
    ∙ c.in_group.ensures.sites
    ∙ all_sites c.args.text.now c.args.tokens.now c.args.entries.now

pub loop-left-smaller : goal.loop-left-smaller
loop-left-smaller c =
    let before = ap weight c.in-Some.ensures ∙ weight_more c.pop.new.self c.in-Some.left in
    omega (arith, before, c.in_ok-take.ensures.less)

pub loop-left-preserved : goal.loop-left-preserved
loop-left-preserved c =
    let source : TokenizedText = record { alloc = c.args.alloc; text = c.args.text; tokens = c.args.tokens } in
    c.in_ok-take.ensures.sites
    ∙ ap (λ s. c.loop-left.found ++ s)
    (sym (ap (ahead source) c.in-Some.ensures ∙ ahead_more source c.pop.new.self c.in-Some.left))
    ∙ c.loop-left.invariant

pub returns : goal.returns
returns c =
    let source : TokenizedText = record { alloc = c.args.alloc; text = c.args.text; tokens = c.args.tokens } in
    sym (append-nil c.loop-left.found)
    ∙ ap (λ s. c.loop-left.found ++ s) (sym (ap (ahead source) c.in_default.ensures.0 ∙ ahead_none source))
    ∙ c.loop-left.invariant
