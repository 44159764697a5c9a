-- A framed show (document 02, F-3) shows what a template load, a plug and a show by way of a template variable of their own would show.
use Prim.Native.Nat.{ℕ, ◌+◌, ◌≤◌, ◌<◌}
use mathlib.Core.Path.{◌≡◌, refl, sym, ap, ap₂, subst, subst₂, ◌∙◌}
use mathlib.Core.List.{List, [], ◌∷◌, ◌++◌, append-nil}
use mathlib.Core.Bool.{Bool, true, false, cond, ◌&&◌, ◌||◌, false≢true}
use mathlib.Core.Logic.{◌↔◌, ◌≢◌}
use native.Mathlib.Omega.{arith}
use native.Mathlib.Decide.{ℕ_discrete}
use borrow.Author.Tests.{eq-eqb, ne_eqb, eqb-true, eqb-false, lt-ltb, ltb-true, ltb-false}
use lib.Dec.{eqb, ltb}
use lib.ListN.{length, get_or, set, length-append, length-set, get_or-append}
use lib.Seq.{lt-length-set, get_or_at, get_or-append-add, get_or-set_same, get_or-set_other}
use Rattle.sets.proofs.Booleans.{or_neither, neither, and_left, and_right, and_both}
use Rattle.pages.specs.Items.{Items, gap_in}
use Rattle.programs.specs.Program.{Act, copy_template, set_template, copy_string, set_string, any_string, plug, plug_string, show, show_framed, Statement, step, stop, template_variable, act_names_template, statement_names, named, statement_at, template_at}
use Rattle.programs.specs.ProgramReading.{points_there}
use Rattle.programs.specs.Runs.{stay, stay_open, plugged, plugged_string, closed, Choice, State, start, update, act_templates, act_strings, act_pages, after, stepped, run_from, shown}
use Rattle.programs.specs.Unframed.{unframed, tripled, SameBut, Shows, PointsThere}
use Rattle.programs.proofs.Replacing.{unchanged}
use Rattle.programs.proofs.AtPoints.{statement_element, past_stops, names_none, none_names}

module _ {A : Type 0} (z : ℕ) (new : A) (X : ℕ → A) where
  update_same : update z new X z ≡ new
  update_same = rw (eq-eqb z z refl)

  update_other : (x : ℕ) → z ≢ x → update z new X x ≡ X x
  update_other x o = rw (ne_eqb x z (λ e. o (sym e)))

-- The value of z after a load into z and a plug of x into it: of values and of summaries alike.
pub plugged_own : {A : Type 0} (join : A → A → A) (new : A) (X : ℕ → A) (z x : ℕ) → z ≢ x
    → update z (join (update z new X z) (update z new X x)) (update z new X) z ≡ join new (X x)
plugged_own join new X z x o = update_same z _ (update z new X) ∙ ap₂ join (update_same z new X) (update_other z new X x o)

-- One step against three, whichever next point and choice the first two of these have.
pub framed_step : (φs : List Items) (x t g p q z : ℕ) → z ≢ x → (m m' : ℕ) (c c₁ c₂ : Choice) (σ : State)
    → SameBut z (after φs (step (show_framed x t g) p q) c σ)
    (after φs (step (show z) p q) c (after φs (step (plug z z g x) m' m') c₂ (after φs (step (set_template z t) m m) c₁ σ)))
framed_step φs x t g p q z o m m' c c₁ c₂ σ = record {
  point = refl;
  template = λ k d. sym
      (update_other z _ (update z (template_at φs t) σ.template) k d ∙ update_other z (template_at φs t) σ.template k d);
  string = refl;
  pages = ap₂ (λ (before : List Items) (page : Items). before ++ (closed page ∷ []))
      (sym (append-nil (σ.pages ++ []) ∙ append-nil σ.pages))
      (sym (plugged_own (λ into value. plugged g value into) (template_at φs t) σ.template z x o));
}

-- A frame that lacks the gap is shown alone.
pub framed_alone : (φs : List Items) (x t g : ℕ) → gap_in (template_at φs t) g ≡ false → (X : ℕ → Items)
    → act_pages φs (show_framed x t g) X ≡ closed (template_at φs t) ∷ []
unfolding plugged
framed_alone φs x t g lacks X =
    ap (λ (φ : Items). closed φ ∷ []) (unchanged _ stay_open (template_at φs t) (λ k e. put k e (eqb k g) refl) (λ h e. refl))
  where
    put : (k : ℕ) → gap_in (template_at φs t) k ≡ true → (b : Bool) → eqb k g ≡ b → cond b (X x) (stay k) ≡ stay k
    put k e true is = absurd (false≢true (sym lacks ∙ subst (λ (k' : ℕ). gap_in (template_at φs t) k' ≡ true) (eqb-true k g is) e))
    put k e false is = refl

-- A statement that does not name z does the same to states that differ in z alone.
module _ (φs : List Items) (z : ℕ) where
  module _ (X X' : ℕ → Items) (same : (k : ℕ) → z ≢ k → X k ≡ X' k) where
    updated : (x : ℕ) {new new' : Items} → new ≡ new' → (k : ℕ) → z ≢ k → update x new X k ≡ update x new' X' k
    updated x e k o = ap₂ (cond (eqb k x)) e (same k o)

    unnamed : (x : ℕ) → eqb z x ≡ false → X x ≡ X' x
    unnamed x e = same x (eqb-false z x e)

    templates_same : (Y : ℕ → ℕ) (a : Act) → act_names_template a z ≡ false → (k : ℕ) → z ≢ k → act_templates φs a X Y k ≡ act_templates φs a X' Y k
    templates_same Y (copy_template x x') o = updated x (unnamed x' (or_neither (eqb z x) (eqb z x') o).1)
    templates_same Y (set_template x t) o = updated x refl
    templates_same Y (copy_string y y') o = same
    templates_same Y (set_string y s) o = same
    templates_same Y (any_string y) o = same
    templates_same Y (plug x x' g x'') o =
        let either = or_neither (eqb z x || eqb z x') (eqb z x'') o in
        updated x (ap₂ (plugged g) (unnamed x'' either.1) (unnamed x' (or_neither (eqb z x) (eqb z x') either.0).1))
    templates_same Y (plug_string x x' h y) o = updated x (ap (plugged_string h (Y y)) (unnamed x' (or_neither (eqb z x) (eqb z x') o).1))
    templates_same Y (show x) o = same
    templates_same Y (show_framed x t g) o = same

    pages_same : (a : Act) → act_names_template a z ≡ false → act_pages φs a X ≡ act_pages φs a X'
    pages_same (copy_template x x') o = refl
    pages_same (set_template x t) o = refl
    pages_same (copy_string y y') o = refl
    pages_same (set_string y s) o = refl
    pages_same (any_string y) o = refl
    pages_same (plug x x' g x'') o = refl
    pages_same (plug_string x x' h y) o = refl
    pages_same (show x) o = ap (λ (φ : Items). closed φ ∷ []) (unnamed x o)
    pages_same (show_framed x t g) o = ap (λ (φ : Items). closed (plugged g φ (template_at φs t)) ∷ []) (unnamed x o)

  after_same : (s : Statement) → statement_names s (template_variable z) ≡ false → (c : Choice) {σ σ' : State} → SameBut z σ σ'
      → SameBut z (after φs s c σ) (after φs s c σ')
  after_same (step a p q) o c {σ} {σ'} same = record {
    point = refl;
    template = λ k d. templates_same σ.template σ'.template same.template σ.string a o k d
        ∙ ap (λ (Y : ℕ → ℕ). act_templates φs a σ'.template Y k) same.string;
    string = ap (act_strings a c.string) same.string;
    pages = ap₂ ◌++◌ same.pages (pages_same σ.template σ'.template same.template a o);
  }
  after_same stop o c same = same

same_then : {z : ℕ} {σ σ' σ'' : State} → SameBut z σ σ' → SameBut z σ' σ'' → SameBut z σ σ''
same_then a b = record {
  point = a.point ∙ b.point;
  template = λ x o. a.template x o ∙ b.template x o;
  string = a.string ∙ b.string;
  pages = a.pages ∙ b.pages;
}

one_point : (b : Bool) (i : ℕ) → cond b i i ≡ i
one_point true i = refl
one_point false i = refl

next_there : (points : ℕ) (b : Bool) (i j : ℕ) → (ltb i points && ltb j points) ≡ true → cond b j i < points
next_there points true i j e = ltb-true j points (and_right (ltb i points) (ltb j points) e)
next_there points false i j e = ltb-true i points (and_left (ltb i points) (ltb j points) e)

more_points : {points points' : ℕ} → points ≤ points' → (s : Statement) → points_there points s ≡ true → points_there points' s ≡ true
more_points {points} {points'} l (step a i j) e = and_both (ltb i points') (ltb j points')
    (lt-ltb i points' (omega (arith, l, next_there points false i j e))) (lt-ltb j points' (omega (arith, l, next_there points true i j e)))
more_points l stop e = refl

module _ (φs : List Items) where
  after_there : (points : ℕ) (s : Statement) → points_there points s ≡ true → (c : Choice) (σ : State) → σ.point < points → (after φs s c σ).point < points
  after_there points (step a i j) e c σ l = next_there points c.second i j e
  after_there points stop e c σ l = l

  stepped_as : (program : List Statement) (c : Choice) (σ : State) {i : ℕ} {s : Statement} → σ.point ≡ i → statement_at program i ≡ s
      → stepped φs program c σ ≡ after φs s c σ
  unfolding stepped
  stepped_as program c σ e f = ap (λ (s : Statement). after φs s c σ) (ap (statement_at program) e ∙ f)

-- The statements of a program without the framed show of a point.
module _ (program : List Statement) (n x t g p q z : ℕ) where
  abbrev end : ℕ
  end = length program

  abbrev out : List Statement
  out = unframed program n x t g p q z

  abbrev load : Statement
  load = step (set_template z t) end end

  abbrev behind : List Statement
  behind = step (plug z z g x) (end + 1) (end + 1) ∷ step (show z) p q ∷ []

  before_end : (i : ℕ) → i < end → statement_at out i ≡ get_or (set program n load) i stop
  unfolding unframed
  before_end i l = statement_element out i ∙ get_or-append (set program n load) behind stop i (lt-length-set program n load l)

  at_load : n < end → statement_at out n ≡ load
  at_load l = before_end n l ∙ get_or-set_same program n load stop l

  pub at_other : (i : ℕ) → i < length program → i ≢ n → statement_at (unframed program n x t g p q z) i ≡ statement_at program i
  at_other i l o = before_end i l ∙ get_or-set_other program n i load stop o ∙ sym (statement_element program i)

  at_plug : statement_at out end ≡ step (plug z z g x) (end + 1) (end + 1)
  unfolding unframed
  at_plug = statement_element out end ∙ get_or_at (set program n load) _ _ stop end (length-set program n load)

  pub at_show : statement_at out (end + 1) ≡ step (show z) p q
  unfolding unframed
  at_show = statement_element out (end + 1)
      ∙ ap (λ (l : ℕ). get_or out (l + 1) stop) (sym (length-set program n load))
      ∙ get_or-append-add (set program n load) behind 1 stop

  length_out : length out ≡ end + 2
  unfolding unframed
  length_out = length-append (set program n load) behind ∙ ap (λ (l : ℕ). l + 2) (length-set program n load)

  module _ (framed : statement_at program n ≡ step (show_framed x t g) p q) where
    inside : n < end
    inside = go (ltb n end) refl
      where
        go : (b : Bool) → ltb n end ≡ b → n < end
        go true e = ltb-true n end e
        go false e = absurd
            (let past : stop ≡ step (show_framed x t g) p q = sym (past_stops program n (ltb-false n end e)) ∙ framed in
            let no : ◌≡◌ {A = ℕ} 0 1 = cc in
            omega arith)

    framed_unnamed : (v : ℕ) → named program (template_variable v) ≡ false → eqb v x ≡ false
    framed_unnamed v own = sym (ap (λ (s : Statement). statement_names s (template_variable v)) framed) ∙ names_none program (template_variable v) own n

    as_before : (i : ℕ) → i ≢ n → i ≢ end → i ≢ end + 1 → statement_at out i ≡ statement_at program i
    as_before i o o₁ o₂ = go (ltb i end) refl
      where
        go : (b : Bool) → ltb i end ≡ b → statement_at out i ≡ statement_at program i
        go true e = at_other i (ltb-true i end e) o
        go false e =
            let l : end ≤ i = ltb-false i end e in
            past_stops out i (omega (arith, l, length_out, o₁, o₂)) ∙ sym (past_stops program i l)

    -- What holds of load, plug and show and of every other statement there was holds of every statement.
    pub each : (P : ℕ → Statement → Type 0) → ((i : ℕ) → P i load) → ((i : ℕ) → P i (step (plug z z g x) (end + 1) (end + 1)))
        → ((i : ℕ) → P i (step (show z) p q)) → ((i : ℕ) → i ≢ n → P i (statement_at program i)) → (i : ℕ) → P i (statement_at out i)
    each P loads plugs shows others i = elim (ℕ_discrete i n) [
      | yes e ↦ subst (P i) (sym (ap (statement_at out) e ∙ at_load inside)) (loads i)
      | no o ↦ elim (ℕ_discrete i end) [
        | yes e ↦ subst (P i) (sym (ap (statement_at out) e ∙ at_plug)) (plugs i)
        | no o₁ ↦ elim (ℕ_discrete i (end + 1)) [
          | yes e ↦ subst (P i) (sym (ap (statement_at out) e ∙ at_show)) (shows i)
          | no o₂ ↦ subst (P i) (sym (as_before i o o₁ o₂)) (others i o)
        ]
      ]
    ]

    pub unframed_there : PointsThere program → PointsThere (unframed program n x t g p q z)
    unframed_there there = each (λ i s. points_there (length out) s ≡ true)
        (λ i. let l : ltb end (length out) ≡ true = lt-ltb end (length out) (omega (arith, length_out)) in and_both _ _ l l)
        (λ i. let l : ltb (end + 1) (length out) ≡ true = lt-ltb (end + 1) (length out) (omega (arith, length_out)) in and_both _ _ l l)
        (λ i. more_points wider (step (show z) p q) (sym (ap (points_there end) framed) ∙ there n))
        (λ i o. more_points wider (statement_at program i) (there i))
      where
        wider : end ≤ length out
        wider = omega (arith, length_out)

    pub unframed_names : (v : ℕ) → named program (template_variable v) ≡ false → v ≢ z
        → named (unframed program n x t g p q z) (template_variable v) ≡ false
    unframed_names v own o =
        let not_z = ne_eqb v z o in
        let not_x : eqb v x ≡ false = framed_unnamed v own in
        none_names out (template_variable v) (each (λ i s. statement_names s (template_variable v) ≡ false)
        (λ i. not_z) (λ i. neither _ _ (neither _ _ not_z not_z) not_x) (λ i. not_z) (λ i _. names_none program (template_variable v) own i))

  module _ (φs : List Items)
      (framed : statement_at program n ≡ step (show_framed x t g) p q) (own : named program (template_variable z) ≡ false)
      (there : PointsThere program) where
    -- Both runs are at one point of the program as it was.
    record Beside (σ σ' : State) : Type 0 where
      same : SameBut z σ σ'
      point_there : σ.point < end

    module _ {σ σ' : State} (b : Beside σ σ') where
      stays_there : (c : Choice) → (stepped φs program c σ).point < end
      unfolding stepped
      stays_there c = after_there φs end (statement_at program σ.point) (there σ.point) c σ b.point_there

      one_step : (c : Choice) → σ.point ≢ n → Beside (stepped φs program c σ) (stepped φs out c σ')
      unfolding stepped
      one_step c o = record {
        same = subst (SameBut z (stepped φs program c σ))
            (sym (stepped_as φs out c σ' (sym b.same.point) (at_other σ.point b.point_there o)))
            (after_same φs z (statement_at program σ.point) (names_none program (template_variable z) own σ.point) c b.same);
        point_there = stays_there c;
      }

      module _ (e : σ.point ≡ n) where
        abbrev loaded : Choice → State
        loaded c = after φs load c σ'

        abbrev plugged_in : Choice → Choice → State
        plugged_in c₁ c₂ = after φs (step (plug z z g x) (end + 1) (end + 1)) c₂ (loaded c₁)

        first : (c₁ : Choice) → stepped φs out c₁ σ' ≡ loaded c₁
        first c₁ = stepped_as φs out c₁ σ' (sym b.same.point ∙ e) (at_load (inside framed))

        second : (c₁ c₂ : Choice) → stepped φs out c₂ (stepped φs out c₁ σ') ≡ plugged_in c₁ c₂
        second c₁ c₂ = ap (stepped φs out c₂) (first c₁)
            ∙ stepped_as φs out c₂ (loaded c₁) (one_point c₁.second end) at_plug

        third : (c c₁ c₂ : Choice) → stepped φs out c (stepped φs out c₂ (stepped φs out c₁ σ')) ≡ after φs (step (show z) p q) c (plugged_in c₁ c₂)
        third c c₁ c₂ = ap (stepped φs out c) (second c₁ c₂)
            ∙ stepped_as φs out c (plugged_in c₁ c₂) (one_point c₂.second (end + 1)) at_show

        three_steps : (c c₁ c₂ : Choice) → Beside (stepped φs program c σ) (stepped φs out c (stepped φs out c₂ (stepped φs out c₁ σ')))
        three_steps c c₁ c₂ = record {
          same = subst₂ (SameBut z) (sym (stepped_as φs program c σ e framed)) (sym (third c c₁ c₂))
              (same_then (after_same φs z (step (show_framed x t g) p q) (framed_unnamed framed z own) c b.same)
              (framed_step φs x t g p q z (eqb-false z x (framed_unnamed framed z own)) end (end + 1) c c₁ c₂ σ'));
          point_there = stays_there c;
        }

        one_shown : (c₁ : Choice) → σ.pages ≡ (stepped φs out c₁ σ').pages
        one_shown c₁ = b.same.pages ∙ sym (ap (λ (τ : State). τ.pages) (first c₁) ∙ append-nil σ'.pages)

        two_shown : (c₁ c₂ : Choice) → σ.pages ≡ (stepped φs out c₂ (stepped φs out c₁ σ')).pages
        two_shown c₁ c₂ = b.same.pages
            ∙ sym (ap (λ (τ : State). τ.pages) (second c₁ c₂) ∙ append-nil (σ'.pages ++ []) ∙ append-nil σ'.pages)

    along : (cs : List Choice) {σ σ' : State} → Beside σ σ' → SameBut z (run_from φs program σ cs) (run_from φs out σ' (tripled φs program n σ cs))
    unfolding run_from tripled
    along [] b = b.same
    along (c ∷ cs) {σ} b = elim (ℕ_discrete σ.point n) [
      | yes e ↦ rw (eq-eqb σ.point n e) (along cs (three_steps b e c c c))
      | no o ↦ rw (ne_eqb σ.point n o) (along cs (one_step b c o))
    ]

    back : (cs' : List Choice) {σ σ' : State} → Beside σ σ' → (cs : List Choice) × ((run_from φs program σ cs).pages ≡ (run_from φs out σ' cs').pages)
    unfolding run_from
    back [] b = ([], b.same.pages)
    back (c ∷ []) {σ} b = elim (ℕ_discrete σ.point n) [
      | yes e ↦ ([], one_shown b e c)
      | no o ↦ let r = back [] (one_step b c o) in (c ∷ r.0, r.1)
    ]
    back (c₁ ∷ c₂ ∷ []) {σ} b = elim (ℕ_discrete σ.point n) [
      | yes e ↦ ([], two_shown b e c₁ c₂)
      | no o ↦ let r = back (c₂ ∷ []) (one_step b c₁ o) in (c₁ ∷ r.0, r.1)
    ]
    back (c₁ ∷ c₂ ∷ c ∷ cs') {σ} b = elim (ℕ_discrete σ.point n) [
      | yes e ↦ let r = back cs' (three_steps b e c c₁ c₂) in (c ∷ r.0, r.1)
      | no o ↦ let r = back (c₂ ∷ c ∷ cs') (one_step b c₁ o) in (c₁ ∷ r.0, r.1)
    ]

    begins : Beside start start
    begins = record { same = record { point = refl; template = λ k o. refl; string = refl; pages = refl }; point_there = omega (arith, inside framed) }

    -- A run of the program and one without the framed show, over three choices for each that the first makes at point n, end alike.
    pub framed_run : (cs : List Choice)
        → SameBut z (run_from φs program start cs) (run_from φs (unframed program n x t g p q z) start (tripled φs program n start cs))
    framed_run cs = along cs begins

    -- Every run without the framed show shows the pages of a run of the program.
    pub unframed_run : (cs' : List Choice) → (cs : List Choice) × (shown φs program cs ≡ shown φs (unframed program n x t g p q z) cs')
    unfolding shown
    unframed_run cs' = back cs' begins

    pub framed_runs : (pages : List Items) → Shows φs program pages ↔ Shows φs (unframed program n x t g p q z) pages
    unfolding shown
    framed_runs pages = (
      λ (cs, e). (tripled φs program n start cs, sym (framed_run cs).pages ∙ e),
      λ (cs', e). let r = unframed_run cs' in (r.0, r.1 ∙ e),
    )
