-- A run by its words: those that name a folder, and the others.
use Rattle.std.proofs.Common.{◌≡◌, inl, inr, ℕ, List, Option, Some, None, IfSome}
use Rattle.url.specs.Parts.{Parts}
use Rattle.graph_run.specs.declared.status.Status.{Status}
use Rattle.graph_run.specs.declared.status.Status.TheVariants.{Done, BuildRefused, BadInput, ReadFault, WriteFault, NoMemory, Usage}
use Rattle.graph_run.specs.words.Words as graph
use Rattle.graph_run.specs.Run as run
use Rattle.vendor_run.specs.Words.{IsVendor}
use Rattle.vendor_run.specs.Run as vendored
use Rattle.vendor_run.specs.Program.{IsReading, IsDueFor, usage, form, vendor, Wrote}

-- words that name no folder ask for an input where they are a form of a graph that does
pub reads_graph : (words : List (List ℕ)) → ((base : Parts) → ¬ IsVendor base words) → IsReading words
    → graph.IsReading words
reads_graph words none (inl reading) = reading
reads_graph words none (inr named) = absurd (none named.0 named.1)

module _ (words : List (List ℕ)) (input old new : Option (List ℕ)) where
  -- what was written for words that name a folder
  pub wrote_vendor : (base : Parts) (s : Status) → IsVendor base words → vendored.Wrote base input old new s
      → Wrote words input old new s
  wrote_vendor base Done names (text, due, a) = (text, vendor base names due, a)
  wrote_vendor base BuildRefused names (text, due, a) = (text, vendor base names due, a)
  wrote_vendor base BadInput names (text, due, a) = (text, vendor base names due, a)
  wrote_vendor base ReadFault names kept = kept
  wrote_vendor base WriteFault names (status, text, due, a) = (status, text, vendor base names due, a)
  wrote_vendor base NoMemory names kept = kept
  wrote_vendor base Usage names never = absurd never

  -- and for others
  module _ (none : (base : Parts) → ¬ IsVendor base words) where
    due_graph : (s : Status) (text : List ℕ) → run.IsDueFor words input s text → IsDueFor words input s text
    due_graph s text (run.usage formless is line) = usage (formless, none) is line
    due_graph s text (run.form f is due) = form f is due

    pub wrote_graph : (s : Status) → run.Wrote words input old new s → Wrote words input old new s
    wrote_graph Done (text, due, a) = (text, due_graph Done text due, a)
    wrote_graph BuildRefused (text, due, a) = (text, due_graph BuildRefused text due, a)
    wrote_graph BadInput (text, due, a) = (text, due_graph BadInput text due, a)
    wrote_graph ReadFault kept = kept
    wrote_graph WriteFault (status, text, due, a) = (status, text, due_graph status text due, a)
    wrote_graph NoMemory kept = kept
    wrote_graph Usage (text, due, a) = (text, due_graph Usage text due, a)

-- what comes of fewer words
pub always_so : (fact : List ℕ → Type 0) (input : Option (List ℕ)) (reads read failed fails : ℕ) (result : Status)
    (is_form was_form : Type 0) (due : Status) → (is_form → was_form)
    → IfSome input (λ bytes. fact bytes → run.Always was_form reads read failed fails result due)
    → IfSome input (λ bytes. fact bytes → run.Always is_form reads read failed fails result due)
always_so fact None reads read failed fails result is_form was_form due so h = tt
always_so fact (Some bytes) reads read failed fails result is_form was_form due so h = λ holds is. h holds (so is)

-- what comes of words that name a folder is so of them
pub comes_always : (fact : List ℕ → Type 0) (input : Option (List ℕ)) (reads read failed fails : ℕ) (result : Status)
    (is_form : Type 0) (due : Status)
    → IfSome input (λ bytes. fact bytes → vendored.Comes (λ s. s ≡ due) reads read failed fails result)
    → IfSome input (λ bytes. fact bytes → run.Always is_form reads read failed fails result due)
comes_always fact None reads read failed fails result is_form due h = tt
comes_always fact (Some bytes) reads read failed fails result is_form due h = λ holds is. h holds

-- what holds for any words holds for those that name a folder
pub comes_named : (fact : List ℕ → Type 0) (input : Option (List ℕ)) (P : Type 0) (words : List (List ℕ))
    → IfSome input (λ bytes. fact bytes → P)
    → IfSome input (λ bytes. fact bytes → (base : Parts) → IsVendor base words → P)
comes_named fact None P words h = tt
comes_named fact (Some bytes) P words h = λ holds base named. h holds

-- and anything where none do
pub none_named : (fact : List ℕ → Type 0) (input : Option (List ℕ)) (P : Type 0) (words : List (List ℕ))
    → ((base : Parts) → ¬ IsVendor base words)
    → IfSome input (λ bytes. fact bytes → (base : Parts) → IsVendor base words → P)
none_named fact None P words none = tt
none_named fact (Some bytes) P words none = λ holds base named. absurd (none base named)
