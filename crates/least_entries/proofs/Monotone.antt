-- More is made of more: the transfer functions, the closed graph of a show and its language are monotone.
use Prim.Native.Nat.{ℕ}
use native.Mathlib.Omega.{arith}
use mathlib.Core.Path.{◌≡◌, refl, subst}
use mathlib.Core.List.{List}
use mathlib.Core.Bool.{Bool, true, false, cond, ◌&&◌, ◌||◌, false≢true}
use mathlib.Core.Option.{some, none}
use lib.Dec.{eqb}
use Rattle.pages.specs.Items.{Attribute, Item, Items}
use Rattle.programs.specs.Program.{Act, copy_template, set_template, copy_string, set_string, any_string, plug, plug_string, show, show_framed, Statement, step, stop, statement_at, template_at, template_variable, string_variable}
use Rattle.summaries.specs.Proposal.{root, edge, string, gap_from, attribute_gap_from}
use Rattle.summaries.specs.Summaries.{Summary, Strings, Environment, Within, fragment, plug_summary, plug_string_summary, transfer}
use Rattle.summaries.specs.Languages.{closed_summary, AttributesDerive, no_attribute, fixed, filled, dropped, Derives, nothing, item_then, ItemDerives, text_stays, blank_stays, gap_filled, element_keeps, Language, summary_shown, closed_if_shown, statement_graph, graph_shown}
use Rattle.jobs.specs.Job.{Script}
use Rattle.jobs.specs.JobVerdict.{ShowHolds}
use Rattle.least_entries.specs.Inner.Order.{Below}
use Rattle.least_entries.proofs.Transfers.{SetRelated, Related, template_related, string_related}

-- Tests put together of tests.
pub or_grows : (a a' b b' : Bool) → (a ≡ true → a' ≡ true) → (b ≡ true → b' ≡ true) → (a || b) ≡ true → (a' || b') ≡ true
or_grows true a' b b' f g e = rw (f refl)
or_grows false true b b' f g e = refl
or_grows false false b b' f g e = g e

pub and_grows : (a a' b b' : Bool) → (a ≡ true → a' ≡ true) → (b ≡ true → b' ≡ true) → (a && b) ≡ true → (a' && b') ≡ true
and_grows true a' b b' f g e = rw (f refl) (g e)
and_grows false a' b b' f g e = absurd (false≢true e)

cond_grows : (t a a' b b' : Bool) → (a ≡ true → a' ≡ true) → (b ≡ true → b' ≡ true) → cond t a b ≡ true → cond t a' b' ≡ true
cond_grows true a a' b b' f g e = f e
cond_grows false a a' b b' f g e = g e

-- A test that is the same on both sides.
pub test_grows : (t b b' : Bool) → (b ≡ true → b' ≡ true) → (t && b) ≡ true → (t && b') ≡ true
test_grows t b b' = and_grows t t b b' (λ e. e)

pub plug_grows : (g : ℕ) (S S' T T' : Summary) → Within S S' → Within T T' → Within (plug_summary g S T) (plug_summary g S' T')
plug_grows g S S' T T' s t (root n) = s (root n)
plug_grows g S S' T T' s t (edge n k m) =
    or_grows (S (edge n k m) || T (edge n k m)) (S' (edge n k m) || T' (edge n k m)) _ _
    (or_grows (S (edge n k m)) (S' (edge n k m)) _ _ (s (edge n k m)) (t (edge n k m)))
    (and_grows (eqb k g && S (gap_from k n)) (eqb k g && S' (gap_from k n)) _ _ (test_grows (eqb k g) _ _ (s (gap_from k n))) (t (root m)))
plug_grows g S S' T T' s t (string n h u) = or_grows (S (string n h u)) (S' (string n h u)) _ _ (s (string n h u)) (t (string n h u))
plug_grows g S S' T T' s t (gap_from k n) =
    cond_grows (eqb k g) _ _ _ _ (t (gap_from k n)) (or_grows (S (gap_from k n)) (S' (gap_from k n)) _ _ (s (gap_from k n)) (t (gap_from k n)))
plug_grows g S S' T T' s t (attribute_gap_from h n) =
    or_grows (S (attribute_gap_from h n)) (S' (attribute_gap_from h n)) _ _ (s (attribute_gap_from h n)) (t (attribute_gap_from h n))

pub plug_string_grows : (h : ℕ) (S S' : Summary) (Y Y' : Strings) → Within S S' → Within Y Y' → Within (plug_string_summary h S Y) (plug_string_summary h S' Y')
plug_string_grows h S S' Y Y' s y (root n) = s (root n)
plug_string_grows h S S' Y Y' s y (edge n g m) = s (edge n g m)
plug_string_grows h S S' Y Y' s y (string n k u) =
    or_grows (S (string n k u)) (S' (string n k u)) _ _ (s (string n k u))
    (and_grows (eqb k h && S (attribute_gap_from k n)) (eqb k h && S' (attribute_gap_from k n)) _ _ (test_grows (eqb k h) _ _ (s (attribute_gap_from k n))) (y u))
plug_string_grows h S S' Y Y' s y (gap_from g n) = s (gap_from g n)
plug_string_grows h S S' Y Y' s y (attribute_gap_from k n) = cond_grows (eqb k h) false false _ _ (λ e. e) (s (attribute_gap_from k n))

pub below_refl : (E : Environment) → Below E E
below_refl E (template_variable x) = λ c e. e
below_refl E (string_variable y) = λ t e. e

pub below_trans : (E F G : Environment) → Below E F → Below F G → Below E G
below_trans E F G p q (template_variable x) = λ c e. q (template_variable x) c (p (template_variable x) c e)
below_trans E F G p q (string_variable y) = λ t e. q (string_variable y) t (p (string_variable y) t e)

sets_grow : (φs : List Items) (a : Act) → SetRelated Within Within φs a
sets_grow φs (copy_template x x') = tt
sets_grow φs (set_template x t) = λ c e. e
sets_grow φs (copy_string y y') = tt
sets_grow φs (set_string y s) = λ t e. e
sets_grow φs (any_string y) = λ t e. e
sets_grow φs (plug x x' g x'') = tt
sets_grow φs (plug_string x x' h y) = tt
sets_grow φs (show x) = tt
sets_grow φs (show_framed x t g) = tt

module _ (φs : List Items) (E F : Environment) (b : Below E F) where
  grow : Related Within Within E F
  grow = record { template = λ x. b (template_variable x); string = λ y. b (string_variable y) }

  pub transfer_grows : (a : Act) → Below (transfer φs a E) (transfer φs a F)
  transfer_grows a (template_variable x) = template_related Within Within φs (record { plugs = plug_grows; fills = plug_string_grows }) E F grow a (sets_grow φs a) x
  transfer_grows a (string_variable y) = string_related Within Within φs (record { plugs = plug_grows; fills = plug_string_grows }) E F grow a (sets_grow φs a) y

-- The closed graph.
pub closed_grows : (S S' : Summary) → Within S S' → Within (closed_summary S) (closed_summary S')
closed_grows S S' s (root n) = s (root n)
closed_grows S S' s (edge n g m) = or_grows (S (edge n g m)) (S' (edge n g m)) _ _ (s (edge n g m)) (test_grows (eqb m 0) _ _ (s (gap_from g n)))
closed_grows S S' s (string n h t) = s (string n h t)
closed_grows S S' s (gap_from g n) = s (gap_from g n)
closed_grows S S' s (attribute_gap_from h n) = s (attribute_gap_from h n)

-- The language of a graph.
module _ (φs : List Items) (G G' : Summary) (w : Within G G') where
  attributes_grow : {n : ℕ} {δ δ' : List Attribute} → AttributesDerive φs G n δ δ' → AttributesDerive φs G' n δ δ'
  attributes_grow no_attribute = no_attribute
  attributes_grow (fixed d) = fixed (attributes_grow d)
  attributes_grow (filled s e d) = filled s (w _ e) (attributes_grow d)
  attributes_grow (dropped e d) = dropped (w _ e) (attributes_grow d)

  mutual
    derived_grows : {n : ℕ} {φ v : Items} → Derives φs G n φ v → Derives φs G' n φ v
    derived_grows nothing = nothing
    derived_grows (item_then d ds e) = item_then (item_grows d) (derived_grows ds) e

    item_grows : {n : ℕ} {i : Item} {v : Items} → ItemDerives φs G n i v → ItemDerives φs G' n i v
    item_grows text_stays = text_stays
    item_grows blank_stays = blank_stays
    item_grows (gap_filled m e d) = gap_filled m (w _ e) (derived_grows d)
    item_grows (element_keeps a d) = element_keeps (attributes_grow a) (derived_grows d)

  pub language_grows : (page : Items) → Language φs G page → Language φs G' page
  language_grows page l = (l.0, (w (root l.0) l.1.0, derived_grows l.1.1))

-- A graph that is shown lies within the one that more entries show.
pub record ShownWithin (φs : List Items) (program : List Statement) (F : ℕ → Environment) (p : ℕ) (G : Summary) : Type 0 where
  pub graph : Summary
  pub shows : graph_shown φs program F p ≡ some graph
  pub within : Within G graph

shows_none : {A : Type 0} {a : A} → none ≡ some a → ⊥
shows_none q = let z : ◌≡◌ {A = ℕ} 0 1 = cc in omega arith

pub shown_grows : (φs : List Items) (program : List Statement) (E F : ℕ → Environment) (p : ℕ) → Below (E p) (F p)
    → (G : Summary) → graph_shown φs program E p ≡ some G → ShownWithin φs program F p G
unfolding graph_shown
shown_grows φs program E F p b G = of_statement (statement_at program p) refl
  where
    of_shown : (S S' : Summary) → Within S S' → graph_shown φs program F p ≡ some (closed_summary S') → some (closed_summary S) ≡ some G → ShownWithin φs program F p G
    of_shown S S' w s q =
        let shown : Summary = closed_summary S in
        let same : shown ≡ G = cc in
        record {
          graph = closed_summary S';
          shows = s;
          within = subst (λ (H : Summary). Within H (closed_summary S')) same (closed_grows S S' w);
        }

    of_act : (a : Act) (n m : ℕ) → statement_at program p ≡ step a n m → closed_if_shown (summary_shown φs a (E p)) ≡ some G → ShownWithin φs program F p G
    of_act (copy_template x x') n m s q = absurd (shows_none q)
    of_act (set_template x t) n m s q = absurd (shows_none q)
    of_act (copy_string y y') n m s q = absurd (shows_none q)
    of_act (set_string y t) n m s q = absurd (shows_none q)
    of_act (any_string y) n m s q = absurd (shows_none q)
    of_act (plug x x' g x'') n m s q = absurd (shows_none q)
    of_act (plug_string x x' h y) n m s q = absurd (shows_none q)
    of_act (show x) n m s q = of_shown ((E p).template x) ((F p).template x) (b (template_variable x)) (rw s) q
    of_act (show_framed x t g) n m s q =
        let frame : Summary = fragment t (template_at φs t) in
        of_shown (plug_summary g frame ((E p).template x)) (plug_summary g frame ((F p).template x))
        (plug_grows g frame frame ((E p).template x) ((F p).template x) (λ c e. e) (b (template_variable x))) (rw s) q

    of_statement : (t : Statement) → statement_at program p ≡ t → statement_graph φs t (E p) ≡ some G → ShownWithin φs program F p G
    of_statement (step a n m) s q = of_act a n m s q
    of_statement stop s q = absurd (shows_none q)

-- What is shown right of more entries is shown right of fewer.
pub shows_hold : (π : Script) (E F : ℕ → Environment) (p : ℕ) → Below (E p) (F p) → ShowHolds π F p → ShowHolds π E p
shows_hold π E F p b h G e page l =
    let more = shown_grows π.templates π.program E F p b G e in
    h more.graph more.shows page (language_grows π.templates G more.graph more.within page l)
