-- One more name goes behind what is joined.
use Rattle.std.proofs.Common.{◌≡◌, ◌∙◌, ◌++◌, ◌∷◌, [], List, ℕ, ap, sym, string_bytes}
use Rattle.std.proofs.lemmas.List.{map_push}
use Rattle.lexical_path.specs.Paths.{texts}
use Rattle.deno_path_util.specs.Steps.{joined_names}
use Rattle.deno_path_util.proofs.ClimbLemmas.{joined_popped}
use Rattle.deno_path_util.proofs.canonical.with_names.Goals as goal

pub names-preserved : goal.names-preserved
names-preserved c =
    let popped : texts c.names.names.items ≡ texts c.pop.new.self.items ++ c.in-Some.name.now ∷ [] =
    rw c.in-Some.ensures.items (map_push _ c.pop.new.self.items c.in-Some.name) in
    sym (joined_popped (texts c.pop.new.self.items) c.in-Some.name.now (string_bytes c.names.joined)
    (string_bytes c.in_ok-joined.joined) c.in_ok-joined.ensures)
    ∙ sym (ap (λ (ns : List (List ℕ)). joined_names ns (string_bytes c.names.joined)) popped) ∙ c.names.invariant
