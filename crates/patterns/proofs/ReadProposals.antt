-- The graphs of a proposal that was read are bounded: their roots and edges name templates that are there, and no string outside the
-- named ones is held by itself.
use Prim.Native.Nat.{ℕ, zero, suc, ◌+◌, ◌*◌, ◌≤◌, ◌<◌}
use native.Mathlib.Omega.{arith}
use mathlib.Core.Path.{◌≡◌, refl, sym, ap₂, subst}
use mathlib.Core.List.Memᴰ
use mathlib.Core.List.{List, [], ◌∷◌}
use mathlib.Core.Bool.{Bool, true, false, cond, ◌&&◌, ◌||◌, false≢true}
use mathlib.Core.Option.{some, none}
use mathlib.Core.Logic.{⊎_elim}
use lib.ListN.{length}
use lib.Dec.{eqb, leb, ltb}
use borrow.Author.Tests.{eqb-true, ne_eqb, leb-true, ltb-true}
use Rattle.commands.specs.declared.Context.{Context}
use Rattle.commands.specs.declared.Context.TheVariants.{Heads}
use Rattle.commands.specs.Commands.{byte, strings, allowed, operands_of, in_range, all_in_range}
use Rattle.commands.specs.Commands as Commands
use Rattle.pages.specs.Items.{Items}
use Rattle.pages.specs.RightPages.{◌∈◌}
use Rattle.programs.specs.Program.{Act, copy_template, set_template, copy_string, set_string, plug, plug_string, show, show_framed, Variable, template_variable, Statement, step, stop, statement_at, template_at}
use Rattle.programs.specs.Program as Program
use Rattle.programs.specs.ProgramReading.{act_templates_there, templates_there}
use Rattle.summaries.specs.Proposal.{root, edge, string, gap_from, attribute_gap_from, Holding, claim, any_at, one_string, any_string, Head}
use Rattle.summaries.specs.ProposalReading.{holding_at, holding_there, rank, holdings, variable_of, holding_context, proposal}
use Rattle.summaries.specs.Summaries.{Summary, Environment, fragment, plug_summary, same_code, says_claim, held, same_variable, under, entries}
use Rattle.summaries.specs.Languages.{closed_summary, summary_shown, closed_if_shown, statement_graph, graph_shown}
use Rattle.agreement.proofs.Readings.{Gives, gives, refuses, runs_out, gives_when, gives_then}
use Rattle.agreement.proofs.ReadPrograms.{TemplatesThere}
use Rattle.patterns.specs.Inner.Given.{Bounded}
use Rattle.sets.proofs.Booleans.{or_cases, and_left, and_right}
use Rattle.patterns.proofs.Ranges.{Ranged, ranges_of, gives_ranged}

-- An item names templates that are there, and no string outside the named ones.
abbrev pub NamedHolding : Holding → Type 0
NamedHolding (claim (root n)) = Unit {0}
NamedHolding (claim (edge n g m)) = Unit {0}
NamedHolding (claim (string n h s)) = s < strings
NamedHolding (claim (gap_from g n)) = Unit {0}
NamedHolding (claim (attribute_gap_from h n)) = Unit {0}
NamedHolding (any_at n h) = Unit {0}
NamedHolding (one_string s) = Unit {0}
NamedHolding any_string = Unit {0}

pub record InRange (count : ℕ) (f : Holding) : Type 0 where
  pub there : holding_there count f ≡ true
  pub named : NamedHolding f

holding_cond : (b : Bool) (f g : Holding) → (b ≡ true → NamedHolding f) → NamedHolding g → NamedHolding (cond b f g)
holding_cond true f g h k = h refl
holding_cond false f g h k = k

-- `43 n h s` has a named string.
string_ranged : (x : Context) (s : List ℕ) (at code : ℕ) → Ranged x s at code → eqb code 0x43 ≡ true → byte s (at + 3) < strings
unfolding operands_of all_in_range in_range
string_ranged x s at code t e =
    let r : all_in_range (Commands.gap ∷ Commands.string ∷ []) s (at + 1 + 1) ≡ true = ranges_of t 0x43 (eqb-true code 0x43 e) in
    let q : all_in_range (Commands.string ∷ []) s (at + 1 + 1 + 1) ≡ true =
    and_right (in_range Commands.gap s (at + 1 + 1)) (all_in_range (Commands.string ∷ []) s (at + 1 + 1 + 1)) r in
    let l : ltb (byte s (at + 1 + 1 + 1)) strings ≡ true = and_left (in_range Commands.string s (at + 1 + 1 + 1)) true q in
    let same : at + 1 + 1 + 1 ≡ at + 3 = omega arith in
    ltb-true (byte s (at + 3)) strings (rw (← same) l)

holding_named : (x : Context) (s : List ℕ) (at code : ℕ) → Ranged x s at code → NamedHolding (holding_at s at code)
holding_named x s at code t =
    holding_cond (eqb code 0x41) _ _ (λ _. tt)
    (holding_cond (eqb code 0x42) _ _ (λ _. tt)
    (holding_cond (eqb code 0x43) _ _ (string_ranged x s at code t)
    (holding_cond (eqb code 0x44) _ _ (λ _. tt)
    (holding_cond (eqb code 0x45) _ _ (λ _. tt)
    (holding_cond (eqb code 0x46) _ _ (λ _. tt)
    (holding_cond (eqb code 0x47) _ _ (λ _. tt) tt))))))

-- All items of a list, and of the heads of a list.
abbrev pub HoldingsInRange : ℕ → List Holding → Type 0
HoldingsInRange count fs = (f : Holding) → f ∈ fs → InRange count f

abbrev pub HeadsInRange : ℕ → List Head → Type 0
HeadsInRange count hs = (h : Head) → h ∈ hs → HoldingsInRange count h.holdings

module _ (count : ℕ) (s : List ℕ) where
  holdings_in_range : (f : ℕ) (x : Context) (least at : ℕ) → Gives (Unit {0}) (λ fs end. HoldingsInRange count fs) (holdings f x count s least at)
  unfolding holdings
  holdings_in_range zero x least at = runs_out tt
  holdings_in_range (suc f) x least at = gives_when (allowed x (byte s at))
      (λ _ _. gives_ranged x s at λ code next t. gives_when (holding_there count (holding_at s at code))
      (λ _ e. gives_when (leb least (rank s at code))
      (λ _ _. gives_then (holdings_in_range f x (rank s at code + 1) next) λ fs end n.
      gives (λ g i. ⊎_elim
      (λ q. subst (InRange count) (sym q) (record { there = e; named = holding_named x s at code t }))
      (n g)
      (Memᴰ.cases_cons i)))
      (λ _ _. refuses))
      (λ _ _. refuses))
      (λ _ _. gives (λ g i. absurd (Memᴰ.not-nil i)))

  pub proposal_in_range : (points f least at : ℕ) → Gives (Unit {0}) (λ hs end. HeadsInRange count hs) (proposal f count points s least at)
  unfolding proposal
  proposal_in_range points zero least at = runs_out tt
  proposal_in_range points (suc f) least at = gives_ranged Heads s at λ code next t. gives_when (eqb code 0x4F)
      (λ _ _. gives (λ h i. absurd (Memᴰ.not-nil i)))
      (λ _ _. gives_when (ltb (byte s (at + 1)) points)
      (λ _ _. gives_when (leb least (byte s (at + 1) * 8 + byte s (at + 2)))
      (λ _ _. gives_then (holdings_in_range f (holding_context (variable_of (byte s (at + 2)))) 0 next) λ fs after m.
      gives_then (proposal_in_range points f (byte s (at + 1) * 8 + byte s (at + 2) + 1) after) λ hs end n.
      gives (λ h i. ⊎_elim (λ q. subst (λ (k : Head). HoldingsInRange count k.holdings) (sym q) m) (n h) (Memᴰ.cases_cons i)))
      (λ _ _. refuses))
      (λ _ _. refuses))

-- What some item of a list says.
held_by : {A : Type 0} (says : Holding → A → Bool) (fs : List Holding) (a : A) → held says fs a ≡ true → (f : Holding) × (f ∈ fs) × (says f a ≡ true)
unfolding held
held_by says [] a e = absurd (false≢true e)
held_by says (f ∷ fs) a e = ⊎_elim
    (λ p. (f, Memᴰ.head refl, p))
    (λ p. let (g, i, q) = held_by says fs a p in (g, Memᴰ.tail i, q))
    (or_cases (says f a) (held says fs a) e)

held_same : {A : Type 0} (says : Holding → A → Bool) (fs : List Holding) (a b : A) → ((f : Holding) → f ∈ fs → says f a ≡ says f b)
    → held says fs a ≡ held says fs b
unfolding held
held_same says [] a b h = refl
held_same says (f ∷ fs) a b h = ap₂ ◌||◌ (h f (Memᴰ.head refl)) (held_same says fs a b (λ g i. h g (Memᴰ.tail i)))

under_in_range : (count : ℕ) (hs : List Head) (p : ℕ) (v : Variable) → HeadsInRange count hs → HoldingsInRange count (under hs p v)
unfolding under
under_in_range count [] p v h = λ f i. absurd (Memᴰ.not-nil i)
under_in_range count (k ∷ hs) p v h =
    go (eqb k.point p && same_variable k.variable v) (under_in_range count hs p v (λ l i. h l (Memᴰ.tail i)))
  where
    go : (b : Bool) → HoldingsInRange count (under hs p v) → HoldingsInRange count (cond b k.holdings (under hs p v))
    go true rest = h k (Memᴰ.head refl)
    go false rest = rest

module _ (count : ℕ) where
  root_there : (f : Holding) (r : ℕ) → InRange count f → says_claim f (root r) ≡ true → r ≤ count
  unfolding same_code
  root_there (claim (root n)) r k e =
      let le = leb-true n count k.there in
      let same = eqb-true n r (and_left (eqb n r) true e) in
      omega arith
  root_there (claim (edge n g m)) r k e = absurd (false≢true e)
  root_there (claim (string n h s)) r k e = absurd (false≢true e)
  root_there (claim (gap_from g n)) r k e = absurd (false≢true e)
  root_there (claim (attribute_gap_from h n)) r k e = absurd (false≢true e)
  root_there (any_at n h) r k e = absurd (false≢true e)
  root_there (one_string s) r k e = absurd (false≢true e)
  root_there any_string r k e = absurd (false≢true e)

  edge_there : (f : Holding) (n g m : ℕ) → InRange count f → says_claim f (edge n g m) ≡ true → m ≤ count
  unfolding same_code
  edge_there (claim (root n')) n g m k e = absurd (false≢true e)
  edge_there (claim (edge n' g' m')) n g m k e =
      let le = leb-true m' count (and_right (leb n' count) (leb m' count) k.there) in
      let q = and_right (eqb n' n) (eqb g' g && (eqb m' m && true)) e in
      let q' = and_right (eqb g' g) (eqb m' m && true) q in
      let same = eqb-true m' m (and_left (eqb m' m) true q') in
      omega arith
  edge_there (claim (string n' h s)) n g m k e = absurd (false≢true e)
  edge_there (claim (gap_from g' n')) n g m k e = absurd (false≢true e)
  edge_there (claim (attribute_gap_from h n')) n g m k e = absurd (false≢true e)
  edge_there (any_at n' h) n g m k e = absurd (false≢true e)
  edge_there (one_string s) n g m k e = absurd (false≢true e)
  edge_there any_string n g m k e = absurd (false≢true e)

  strings_alike : (f : Holding) (n h s : ℕ) → InRange count f → strings ≤ s → says_claim f (string n h s) ≡ says_claim f (string n h strings)
  unfolding same_code
  strings_alike (claim (root n')) n h s k l = refl
  strings_alike (claim (edge n' g m)) n h s k l = refl
  strings_alike (claim (string n' h' s')) n h s k l =
      let small = k.named in
      rw (ne_eqb s' s (λ e. omega arith), ne_eqb s' strings (λ e. omega arith))
  strings_alike (claim (gap_from g n')) n h s k l = refl
  strings_alike (claim (attribute_gap_from h' n')) n h s k l = refl
  strings_alike (any_at n' h') n h s k l = refl
  strings_alike (one_string t) n h s k l = refl
  strings_alike any_string n h s k l = refl

none_is_some : {A : Type 0} {a : A} → none ≡ some a → ⊥
none_is_some q = let z : ◌≡◌ {A = ℕ} 0 1 = cc in omega arith

-- What items in range hold is bounded; so is a template that is there, what a plug makes of bounded summaries, and the closed graph.
held_bounded : (φs : List Items) (fs : List Holding) → HoldingsInRange (length φs) fs → Bounded φs (held says_claim fs)
held_bounded φs fs h = record {
  roots = λ r e. let (f, i, p) = held_by says_claim fs (root r) e in root_there (length φs) f r (h f i) p;
  edges = λ n g m e. let (f, i, p) = held_by says_claim fs (edge n g m) e in edge_there (length φs) f n g m (h f i) p;
  others_alike = λ n k s l. held_same says_claim fs (string n k s) (string n k strings) (λ f i. strings_alike (length φs) f n k s (h f i) l);
}

fragment_bounded : (φs : List Items) (t : ℕ) → t ≤ length φs → Bounded φs (fragment t (template_at φs t))
fragment_bounded φs t there = record {
  roots = λ r e. let same = eqb-true r t e in omega arith;
  edges = λ n g m e. absurd (false≢true e);
  others_alike = λ n k s l. refl;
}

module _ (φs : List Items) (S : Summary) (b : Bounded φs S) where
  plug_bounded : (g : ℕ) (T : Summary) → Bounded φs T → Bounded φs (plug_summary g S T)
  plug_bounded g T c = record {
    roots = b.roots;
    edges = λ n k m e. ⊎_elim
        (λ p. ⊎_elim (b.edges n k m) (c.edges n k m) (or_cases (S (edge n k m)) (T (edge n k m)) p))
        (λ p. c.roots m (and_right (eqb k g && S (gap_from k n)) (T (root m)) p))
        (or_cases (S (edge n k m) || T (edge n k m)) (eqb k g && S (gap_from k n) && T (root m)) e);
    others_alike = λ n k s l. rw (b.others_alike n k s l, c.others_alike n k s l);
  }

  closed_bounded : Bounded φs (closed_summary S)
  closed_bounded = record {
    roots = b.roots;
    edges = λ n g m e. ⊎_elim
        (b.edges n g m)
        (λ p. let z = eqb-true m 0 (and_left (eqb m 0) (S (gap_from g n)) p) in omega arith)
        (or_cases (S (edge n g m)) (eqb m 0 && S (gap_from g n)) e);
    others_alike = b.others_alike;
  }

-- The graph that a point shows.
pub shown_bounded : (φs : List Items) (program : List Statement) (hs : List Head) → HeadsInRange (length φs) hs → TemplatesThere (length φs) program
    → (p : ℕ) (G : Summary) → graph_shown φs program (entries hs) p ≡ some G → Bounded φs G
unfolding graph_shown entries
shown_bounded φs program hs h there p G e = of_statement (statement_at program p) (there p) e
  where
    E : Environment
    E = entries hs p

    of_entry : (x : ℕ) → Bounded φs (E.template x)
    of_entry x = held_bounded φs (under hs p (template_variable x)) (under_in_range (length φs) hs p (template_variable x) h)

    of_shown : (S : Summary) → Bounded φs S → some (closed_summary S) ≡ some G → Bounded φs G
    of_shown S b q = let same : closed_summary S ≡ G = cc in subst (Bounded φs) same (closed_bounded φs S b)

    of_act : (a : Act) → act_templates_there (length φs) a ≡ true → closed_if_shown (summary_shown φs a E) ≡ some G → Bounded φs G
    of_act (copy_template x x') t q = absurd (none_is_some q)
    of_act (set_template x k) t q = absurd (none_is_some q)
    of_act (copy_string y y') t q = absurd (none_is_some q)
    of_act (set_string y s) t q = absurd (none_is_some q)
    of_act (Program.any_string y) t q = absurd (none_is_some q)
    of_act (plug x x' g x'') t q = absurd (none_is_some q)
    of_act (plug_string x x' k y) t q = absurd (none_is_some q)
    of_act (show x) t q = of_shown (E.template x) (of_entry x) q
    of_act (show_framed x k g) t q =
        of_shown (plug_summary g (fragment k (template_at φs k)) (E.template x))
        (plug_bounded φs _ (fragment_bounded φs k (leb-true k (length φs) t)) g (E.template x) (of_entry x)) q

    of_statement : (t : Statement) → templates_there (length φs) t ≡ true → statement_graph φs t E ≡ some G → Bounded φs G
    of_statement stop t q = absurd (none_is_some q)
    of_statement (step a n m) t q = of_act a t q
