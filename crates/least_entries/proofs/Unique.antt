-- The least entries of a script are one, and so are the bytes of their proposal.
use Prim.Native.Nat.{ℕ, suc}
use mathlib.Core.Path.{◌≡◌, ap, ap₂}
use mathlib.Core.List.{◌++◌}
use mathlib.Core.Bool.{Bool, not, ◌&&◌}
use lib.ListN.{length}
use Rattle.commands.specs.Commands.{strings}
use Rattle.programs.specs.Program.{Variable, template_variable, string_variable}
use Rattle.summaries.specs.Proposal.{Claim, root, edge, string, gap_from, attribute_gap_from, Holding, claim, any_at, one_string, any_string}
use Rattle.summaries.specs.ProposalReading.{variable_of}
use Rattle.summaries.specs.Summaries.{Summary, Strings, Environment}
use Rattle.summaries.specs.ProposalOf.{where_held, unlisted, root_items, edge_items, string_items, any_items, gap_items, attribute_gap_items, template_items, variable_strings, items_of, headed, proposal_of}
use Rattle.summaries.specs.WrittenProposal.{written_proposal}
use Rattle.jobs.specs.Job.{Script}
use Rattle.jobs.specs.LeastEntries.{Least, proposal_bytes}
use Rattle.sets.proofs.Booleans.{alike}
use Rattle.least_entries.specs.Inner.Order.{Below, Alike}
use Rattle.least_entries.proofs.Each.{each_same}

pub below_both : (E F : Environment) → Below E F → Below F E → Alike E F
below_both E F p q = record {
  template = λ x c. alike (E.template x c) (F.template x c) (p (template_variable x) c) (q (template_variable x) c);
  string = λ y s. alike (E.string y s) (F.string y s) (p (string_variable y) s) (q (string_variable y) s);
}

pub least_same : (π : Script) (E F : ℕ → Environment) → Least π E → Least π F → (p : ℕ) → Alike (E p) (F p)
least_same π E F l m p = below_both (E p) (F p) (l.within F m.covers p) (m.within E l.covers p)

-- What is alike is listed alike.
module _ (templates : ℕ) (S T : Summary) (e : (c : Claim) → S c ≡ T c) where
  items_same : template_items templates S ≡ template_items templates T
  unfolding template_items
  items_same =
      ap₂ ◌++◌ (ap₂ ◌++◌ (ap₂ ◌++◌ (ap₂ ◌++◌ (ap₂ ◌++◌ roots edges) strings_listed) any) gaps) attribute_gaps
    where
      listed : (c d : Claim) (y : Holding) → where_held (S c && not (S d)) y ≡ where_held (T c && not (T d)) y
      listed c d y = ap₂ (λ (a b : Bool). where_held (a && not b) y) (e c) (e d)

      held : (c : Claim) (y : Holding) → where_held (S c) y ≡ where_held (T c) y
      held c y = ap (λ (b : Bool). where_held b y) (e c)

      roots : root_items templates S ≡ root_items templates T
      roots = each_same (suc templates) _ _ λ t. held (root t) (claim (root t))

      edges : edge_items templates S ≡ edge_items templates T
      edges = each_same (suc templates) _ _ λ n. each_same 8 _ _ λ g. each_same (suc templates) _ _ λ t. held (edge n g t) (claim (edge n g t))

      strings_listed : string_items templates S ≡ string_items templates T
      strings_listed = each_same (suc templates) _ _ λ n. each_same 8 _ _ λ h. each_same strings _ _ λ s. listed (string n h s) (string n h unlisted) (claim (string n h s))

      any : any_items templates S ≡ any_items templates T
      any = each_same (suc templates) _ _ λ n. each_same 8 _ _ λ h. held (string n h unlisted) (any_at n h)

      gaps : gap_items templates S ≡ gap_items templates T
      gaps = each_same 8 _ _ λ g. each_same (suc templates) _ _ λ n. held (gap_from g n) (claim (gap_from g n))

      attribute_gaps : attribute_gap_items templates S ≡ attribute_gap_items templates T
      attribute_gaps = each_same 8 _ _ λ h. each_same (suc templates) _ _ λ n. held (attribute_gap_from h n) (claim (attribute_gap_from h n))

strings_same : (Y Z : Strings) → ((s : ℕ) → Y s ≡ Z s) → variable_strings Y ≡ variable_strings Z
unfolding variable_strings
strings_same Y Z e =
    ap₂ ◌++◌
    (each_same strings _ _ λ s. ap₂ (λ (a b : Bool). where_held (a && not b) (one_string s)) (e s) (e unlisted))
    (ap (λ (b : Bool). where_held b any_string) (e unlisted))

of_same : (templates : ℕ) (E F : Environment) → Alike E F → (v : Variable) → items_of templates E v ≡ items_of templates F v
of_same templates E F a (template_variable x) = items_same templates (E.template x) (F.template x) (a.template x)
of_same templates E F a (string_variable y) = strings_same (E.string y) (F.string y) (a.string y)

pub proposal_same : (templates points : ℕ) (E F : ℕ → Environment) → ((p : ℕ) → Alike (E p) (F p)) → proposal_of templates points E ≡ proposal_of templates points F
unfolding proposal_of
proposal_same templates points E F a =
    each_same points _ _ λ p. each_same 8 _ _ λ v. ap (headed p (variable_of v)) (of_same templates (E p) (F p) (a p) (variable_of v))

pub same_bytes : (π : Script) (E F : ℕ → Environment) → Least π E → Least π F → proposal_bytes π E ≡ proposal_bytes π F
unfolding proposal_bytes
same_bytes π E F l m = ap written_proposal (proposal_same (length π.templates) (length π.program) E F (least_same π E F l m))
