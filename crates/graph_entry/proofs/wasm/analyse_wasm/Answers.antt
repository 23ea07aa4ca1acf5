use Rattle.std.proofs.Common.{subst, List, ℕ, Ok, Err}
use Rattle.graph_entry.specs.Specifier.{text_of}
use Rattle.graph_entry.specs.Wasm.{wasm_resolves}
use Rattle.graph_entry.specs.Steps.{GivesEdges}
use Rattle.graph_entry.proofs.ContentLemmas.{wasm_given, wasm_refused}
use Rattle.graph_entry.proofs.wasm.analyse_wasm.Goals as goal

-- the module of the bytes and the edges
pub returns-in-Ok : goal.returns-in-Ok
returns-in-Ok g c =
    let s = text_of c.args.specifier.now in
    let by = wasm_resolves (g.R.KindResolver.resolving_by_kind c.args.resolver.now) in
    let P : List ℕ → Type 0 = λ b. GivesEdges by s b (Ok c.in-Ok.dependencies) in
    let gives : P c.as_slice.result.now = rw c.in-Ok.is at c.in_ok-dependencies.ensures in
    wasm_given by s c.args.bytes c.in-Ok.dependencies (subst P c.as_slice.ensures gives)

-- the reader's fault
pub returns-in-Err : goal.returns-in-Err
returns-in-Err g c =
    let s = text_of c.args.specifier.now in
    let by = wasm_resolves (g.R.KindResolver.resolving_by_kind c.args.resolver.now) in
    let P : List ℕ → Type 0 = λ b. GivesEdges by s b (Err c.in-Err.error) in
    let gives : P c.as_slice.result.now = rw c.in-Err.is at c.in_ok-dependencies.ensures in
    wasm_refused by s c.args.bytes c.in-Err.error (subst P c.as_slice.ensures gives)
