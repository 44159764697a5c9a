-- The shows of a script: what the tables of a point's graph decide is what the verdict asks there (`JobVerdict`).
use Prim.Native.Nat.{ℕ, ◌≤◌}
use native.Mathlib.Omega.{arith}
use mathlib.Core.Path.{◌≡◌, refl, subst}
use mathlib.Core.Option.{Option, some, none}
use mathlib.Core.Logic.{◌↔◌}
use Rattle.std.specs.Prelude.{None}
use Rattle.verdicts.specs.declared.Breach.{Breach}
use Rattle.pages.specs.RightPages.{SomeElement, WrongAt, FirstBreach}
use Rattle.programs.specs.Program.{template_at}
use Rattle.summaries.specs.Summaries.{Summary, Environment}
use Rattle.summaries.specs.Languages.{Language, DerivedFrom, graph_shown}
use Rattle.jobs.specs.Job.{Script}
use Rattle.jobs.specs.JobVerdict.{ShowHolds, NotRootAt, WrongIn}
use Rattle.agreement.proofs.Breaches.{first_told, first_of, first_below}
use Rattle.agreement.proofs.Marks.{template_rises}
use Rattle.agreement.proofs.SomeElements.{Saying, some_into, some_then, one_element}
use Rattle.agreement.proofs.JobVerdicts.{marked_apart}
use Rattle.patterns.specs.Inner.Given.{Bounded}
use Rattle.patterns.specs.Inner.LowestWrong.{MaybeWrong, LowestWrong, lowest, LowestBreach, nowhere_wrong, found_lowest}
use Rattle.patterns.specs.Inner.Shows.{Least, Tables, ExactTables, lowest_root, lowest_wrong}
use Rattle.patterns.proofs.Standing.{Made, standing}
use Rattle.patterns.proofs.Lowest.{least_iff, least_of, least_below, none_of}
use Rattle.patterns.proofs.Settling.{worked_out}
use Rattle.patterns.proofs.ReadJobs.{GivenShows}
use Rattle.patterns.proofs.WrongElements.{CanBreak}
use Rattle.patterns.proofs.Decided.{WrongBy, Tested, tested_told, told_made, wrong_tested, lowest_tested, lowest_root_lem, all_right}

-- A point that shows nothing.
module _ (π : Script) (E : ℕ → Environment) (p : ℕ) (shows : graph_shown π.templates π.program E p ≡ none) where
  never : (G : Summary) → graph_shown π.templates π.program E p ≡ some G → ⊥
  never G e = let z : ◌≡◌ {A = ℕ} 0 1 = cc in omega arith

  pub nothing_shown : ShowHolds π E p
  nothing_shown G e = absurd (never G e)

module _ (π : Script) (E : ℕ → Environment) (read : GivenShows π E) (p : ℕ) (G : Summary) (shows : graph_shown π.templates π.program E p ≡ some G) (T : Tables)
    (exact : ExactTables π.templates G π.vocabulary T) where
  same_graph : (H : Summary) → graph_shown π.templates π.program E p ≡ some H → H ≡ G
  same_graph H e = cc

  -- 11: the lowest root template with a page that is not exactly the root element.
  pub lowest_not_root : Least (NotRootAt π E p) (lowest_root π.templates G π.vocabulary T)
  lowest_not_root = least_iff (λ t. (
    λ (page, d, n). record { graph = G; shows = shows; page = page; derived = d; other = n },
    λ N. (
      N.page,
      subst (λ (H : Summary). DerivedFrom π.templates H t N.page) (same_graph N.graph N.shows) N.derived,
      N.other,
    ),
  ))
      (lowest_root_lem π.templates G (read.graphs p G shows) π.vocabulary read.script.templates read.script.vocabulary T exact)

  pub bounded : Bounded π.templates G
  bounded = read.graphs p G shows

  -- An element that the tests find.
  abbrev pub Found : ℕ → ℕ → Breach → Type 0
  Found = Tested π.templates G bounded π.vocabulary read.script.templates read.script.vocabulary T exact

  -- It is wrong in some page.
  found_wrong : (t at : ℕ) (b : Breach) → Found t at b → WrongIn π E p t at b
  unfolding WrongAt
  found_wrong t at b f =
      let (r, s) = told_made π.templates G bounded π.vocabulary read.script.templates read.script.vocabulary T exact t at b f in
      let (page, l, w) = (standing π.templates G (WrongBy π.vocabulary at b)).1 (t, r, s) in
      record {
        graph = G;
        shows = shows;
        page = page;
        derived = l;
        wrong = w;
        stands = some_into (Made π.templates G (WrongBy π.vocabulary at b) t) (λ e mark δ φ. mark ≡ at)
            (λ e mark δ φ (δ', φ', a, d, q). q.0) (template_at π.templates t) s;
      }

  in_language : (t at : ℕ) (b : Breach) (W : WrongIn π E p t at b) → Language π.templates G W.page
  in_language t at b W = subst (λ (H : Summary). Language π.templates H W.page) (same_graph W.graph W.shows) W.derived

  -- What is wrong in some page at the offset of an element that is found comes of this element: an offset has one element.
  same_element : (t at : ℕ) (P : Saying) → SomeElement (λ e mark δ φ. (mark ≡ at) × P e mark δ φ) (template_at π.templates t)
      → (u : ℕ) (c : Breach) → WrongIn π E p u at c
      → SomeElement (λ e mark δ φ. (mark ≡ at) × (P e mark δ φ × CanBreak π.templates G π.vocabulary t e δ φ c)) (template_at π.templates t)
  unfolding WrongAt
  same_element t at P s u c W =
      let (n, r, made) = (standing π.templates G (WrongBy π.vocabulary at c)).0 (W.page, in_language u at c W, W.wrong) in
      let stands = some_into (λ e mark δ φ. (mark ≡ at) × P e mark δ φ) (λ e mark δ φ. mark ≡ at) (λ e mark δ φ h. h.0) (template_at π.templates t) s in
      let stands' = some_into (Made π.templates G (WrongBy π.vocabulary at c) n) (λ e mark δ φ. mark ≡ at) (λ e mark δ φ (δ', φ', a, d, q). q.0) (template_at π.templates n) made in
      let same : n ≡ t = marked_apart π read.script.marked at n t stands' stands in
      let broken = some_into (Made π.templates G (WrongBy π.vocabulary at c) n)
      (λ e mark δ φ. (mark ≡ at) × CanBreak π.templates G π.vocabulary n e δ φ c)
      (λ e mark δ φ (δ', φ', a, d, q). (q.0, (δ', φ', a, d, q.1))) (template_at π.templates n) made in
      let (from, to, rises) = template_rises π.templates read.script.marked.0 read.script.marked.1 t read.script.marked.2 in
      one_element at P (λ e mark δ φ. CanBreak π.templates G π.vocabulary t e δ φ c) (template_at π.templates t) from to rises s
      (subst (λ (k : ℕ). SomeElement (λ e mark δ φ. (mark ≡ at) × CanBreak π.templates G π.vocabulary k e δ φ c) (template_at π.templates k)) same broken)

  -- So the breach that the tests tell is the one to be told.
  found_told : (t at : ℕ) (b : Breach) → Found t at b → FirstBreach (WrongIn π E p t at) b
  found_told t at b f = first_of b (found_wrong t at b f) λ c W.
      let (r, s) = tested_told π.templates G bounded π.vocabulary read.script.templates read.script.vocabulary T exact t at b f in
      some_then (λ e mark δ φ. (mark ≡ at) × (FirstBreach (CanBreak π.templates G π.vocabulary t e δ φ) b
      × CanBreak π.templates G π.vocabulary t e δ φ c))
      (λ e mark δ φ h. first_below h.1.0 c h.1.1) (template_at π.templates t)
      (same_element t at (λ e mark δ φ. FirstBreach (CanBreak π.templates G π.vocabulary t e δ φ) b) s t c W)

  wrong_found : (t at : ℕ) (b : Breach) → WrongIn π E p t at b → (n : ℕ) × (c : Breach) × Found n at c
  wrong_found t at b W =
      wrong_tested π.templates G bounded π.vocabulary read.script.templates read.script.vocabulary T exact W.page at b (in_language t at b W) W.wrong

  -- 12, 14 and 15: the lowest element that is found is the lowest that is wrong in some page.
  pub lowest_told : {w : MaybeWrong} → LowestWrong Found w → LowestBreach (WrongIn π E p) w
  lowest_told (LowestWrong.nowhere h) = nowhere_wrong (λ t at b W. let (n, c, f) = wrong_found t at b W in h n at c f)
  lowest_told (lowest {n = t} {at = at} {b = b} f h) =
      found_lowest (found_told t at b f) (λ u other c W. let (n, d, g) = wrong_found u other c W in h n other d g)

  pub lowest_wrong_element : LowestBreach (WrongIn π E p) (lowest_wrong π.templates G π.vocabulary T)
  lowest_wrong_element = lowest_told (lowest_tested π.templates G bounded π.vocabulary read.script.templates read.script.vocabulary T exact)

  -- The show holds if and only if there is neither.
  pub show_holds : ShowHolds π E p ↔ ((lowest_root π.templates G π.vocabulary T ≡ none) × (lowest_wrong π.templates G π.vocabulary T ≡ None))
  show_holds = (
    λ h. (all_right π.templates G bounded π.vocabulary read.script.templates read.script.vocabulary T exact).0 (λ page l. h G shows page l),
    λ e H q page l. (all_right π.templates G bounded π.vocabulary read.script.templates read.script.vocabulary T exact).1 e page
        (subst (λ (K : Summary). Language π.templates K page) (same_graph H q) l),
  )

  pub holds_unless : lowest_root π.templates G π.vocabulary T ≡ none → ((t at : ℕ) (b : Breach) → WrongIn π E p t at b → ⊥) → ShowHolds π E p
  holds_unless no_root no_wrong = show_holds.1 (no_root, nowhere_if lowest_wrong_element)
    where
      nowhere_if : {w : MaybeWrong} → LowestBreach (WrongIn π E p) w → w ≡ None
      nowhere_if (nowhere_wrong h) = refl
      nowhere_if (found_lowest {n = t} {at = at} {b = b} f l) = absurd (no_wrong t at b (first_told f))

-- What is found at a point: nothing; or the lowest root template with a page that is not exactly the root element; or, where there
-- is none, the lowest element that is wrong in some page, by its offset and a template that it stands in, with the breach that is told.
pub data ShowDecided (π : Script) (E : ℕ → Environment) (p : ℕ) : Type 0 where
  holds : ShowHolds π E p → ShowDecided π E p
  not_root : (t : ℕ) → NotRootAt π E p t → ((t' : ℕ) → NotRootAt π E p t' → t ≤ t') → ShowDecided π E p
  wrong_element : ((t : ℕ) → NotRootAt π E p t → ⊥) → (t at : ℕ) (b : Breach) → FirstBreach (WrongIn π E p t at) b
      → ((t' at' : ℕ) (b' : Breach) → WrongIn π E p t' at' b' → at ≤ at') → ShowDecided π E p

-- Every show is decided.
pub show_decided : (π : Script) (E : ℕ → Environment) → GivenShows π E → (p : ℕ) → ShowDecided π E p
show_decided π E read p = go (graph_shown π.templates π.program E p) refl
  where
    by_element : ((t : ℕ) → NotRootAt π E p t → ⊥) → (w : MaybeWrong) → LowestBreach (WrongIn π E p) w → (w ≡ None → ShowHolds π E p) → ShowDecided π E p
    by_element no_root _ (nowhere_wrong h) right = holds (right refl)
    by_element no_root _ (found_lowest {n = t} {at = at} {b = b} f l) right = wrong_element no_root t at b f l

    from : (G : Summary) → graph_shown π.templates π.program E p ≡ some G → (T : Tables) → ExactTables π.templates G π.vocabulary T
        → (a : Option ℕ) → lowest_root π.templates G π.vocabulary T ≡ a → ShowDecided π E p
    from G shows T exact (some t) e =
        let l = subst (Least _) e (lowest_not_root π E read p G shows T exact) in
        not_root t (least_of l) (least_below l)
    from G shows T exact none e =
        let n = subst (Least _) e (lowest_not_root π E read p G shows T exact) in
        by_element (none_of n) _ (lowest_wrong_element π E read p G shows T exact) (λ z. (show_holds π E read p G shows T exact).1 (e, z))

    go : (o : Option Summary) → graph_shown π.templates π.program E p ≡ o → ShowDecided π E p
    go none e = holds (nothing_shown π E p e)
    go (some G) e =
        let (T, exact) = worked_out π.templates G (read.graphs p G e) read.script.templates.is_in_range π.vocabulary in
        from G e T exact _ refl
