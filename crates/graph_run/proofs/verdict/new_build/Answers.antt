-- The builder is that of the bundle.
use Rattle.std.proofs.Common.{ap, sym, subst}
use Rattle.import_map.proofs.json_reading_lemmas.ReadingLemmas.{IfOk-map}
use Rattle.graph_builder.specs.Builder.{BuildingBy}
use Rattle.graph_builder.specs.Memory.{Memory, data_of}
use Rattle.graph_run.specs.Steps.{BundleWays, IsFresh, IsNew}
use Rattle.graph_run.proofs.GraphLemmas.{building_new, mapped_is, new_fresh}
use Rattle.graph_run.proofs.verdict.new_build.Goals as goal

pub returns-clause-new : goal.returns-clause-new
returns-clause-new c = IfOk-map c.mapped_build.result _ _
    (λ b e. subst (λ (x : BuildingBy Memory BundleWays). IsNew (data_of x.loader) x)
    (sym (mapped_is c.args.bundle c.numbered-loader.result c.in_ok-build.build.inner b.inner c.numbered-loader.ensures
    c.in_ok-build.ensures.new e)) (building_new c.args.bundle c.requires))
    c.mapped_build.ensures.new

pub returns-clause-ways : goal.returns-clause-ways
returns-clause-ways c =
    IfOk-map c.mapped_build.result _ _
    (λ b e. ap (λ (x : BuildingBy Memory BundleWays). x.following) (mapped_is c.args.bundle
    c.numbered-loader.result c.in_ok-build.build.inner b.inner c.numbered-loader.ensures c.in_ok-build.ensures.new e))
    c.mapped_build.ensures.new

pub returns-clause-roots : goal.returns-clause-roots
returns-clause-roots c =
    IfOk-map c.mapped_build.result _ _
    (λ b e. ap (λ (x : BuildingBy Memory BundleWays). x.roots) (mapped_is c.args.bundle
    c.numbered-loader.result c.in_ok-build.build.inner b.inner c.numbered-loader.ensures c.in_ok-build.ensures.new e))
    c.mapped_build.ensures.new

pub returns-clause-imports : goal.returns-clause-imports
returns-clause-imports c =
    IfOk-map c.mapped_build.result _ _
    (λ b e. ap (λ (x : BuildingBy Memory BundleWays). x.imports) (mapped_is c.args.bundle
    c.numbered-loader.result c.in_ok-build.build.inner b.inner c.numbered-loader.ensures c.in_ok-build.ensures.new e))
    c.mapped_build.ensures.new

pub returns-clause-starts : goal.returns-clause-starts
returns-clause-starts c =
    IfOk-map c.mapped_build.result _ _
    (λ b e. ap (λ (x : BuildingBy Memory BundleWays). x.starting) (mapped_is c.args.bundle
    c.numbered-loader.result c.in_ok-build.build.inner b.inner c.numbered-loader.ensures c.in_ok-build.ensures.new e))
    c.mapped_build.ensures.new

pub returns-clause-limit : goal.returns-clause-limit
returns-clause-limit c =
    IfOk-map c.mapped_build.result _ _
    (λ b e. ap (λ (x : BuildingBy Memory BundleWays). x.limit) (mapped_is c.args.bundle
    c.numbered-loader.result c.in_ok-build.build.inner b.inner c.numbered-loader.ensures c.in_ok-build.ensures.new e))
    c.mapped_build.ensures.new

pub returns-clause-modules : goal.returns-clause-modules
returns-clause-modules c = IfOk-map c.mapped_build.result _ _
    (λ b e. ap (λ (x : BuildingBy Memory BundleWays). x.loader.modules)
    (mapped_is c.args.bundle c.numbered-loader.result
    c.in_ok-build.build.inner b.inner c.numbered-loader.ensures c.in_ok-build.ensures.new e))
    c.mapped_build.ensures.new

pub returns-clause-fresh : goal.returns-clause-fresh
returns-clause-fresh c = IfOk-map c.mapped_build.result _ _
    (λ b e. subst (λ (x : BuildingBy Memory BundleWays). IsFresh (data_of x.loader))
    (sym (mapped_is c.args.bundle c.numbered-loader.result c.in_ok-build.build.inner b.inner c.numbered-loader.ensures
    c.in_ok-build.ensures.new e)) (new_fresh c.args.bundle.modules c.args.bundle.arrival c.requires))
    c.mapped_build.ensures.new
