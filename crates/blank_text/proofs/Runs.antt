-- A run over the templates without blank text shows the pages without it.
use Prim.Native.Nat.{ℕ}
use mathlib.Core.Path.{◌≡◌, refl, sym, ap, ap₂, subst, ◌∙◌}
use mathlib.Core.List.{List, [], ◌∷◌, ◌++◌, map, map-append}
use mathlib.Core.Bool.{Bool, true, false, cond}
use mathlib.Core.Option.{Option}
use lib.Dec.{eqb}
use Rattle.pages.specs.Items.{Value, Item, text, blank, gap, element, Items, none, more, ◌⋈◌, without_blank, without_blank_item}
use Rattle.programs.specs.Program.{Act, copy_template, set_template, copy_string, set_string, any_string, plug, plug_string, show, show_framed, Statement, step, stop, statement_at, template_at}
use Rattle.programs.specs.Runs.{filled, replaced, replaced_item, stay, stay_open, plugged, plugged_string, closed, Choice, State, update, act_templates, act_strings, act_pages, after, run_from, shown}
use Rattle.blank_text.proofs.Scripts.{without_at}

without_⋈ : (φ ψ : Items) → without_blank (φ ⋈ ψ) ≡ without_blank φ ⋈ without_blank ψ
unfolding without_blank ◌⋈◌
without_⋈ none ψ = refl
without_⋈ (more text φ) ψ = ap (more text) (without_⋈ φ ψ)
without_⋈ (more blank φ) ψ = without_⋈ φ ψ
without_⋈ (more (gap g) φ) ψ = ap (more (gap g)) (without_⋈ φ ψ)
without_⋈ (more (element e mark δ χ) φ) ψ = ap (more (element e mark δ (without_blank χ))) (without_⋈ φ ψ)

-- What is put into gaps there is what is put here, without blank text.
module _ (put put' : ℕ → Items) (fill : ℕ → Option Value) (same : (g : ℕ) → put' g ≡ without_blank (put g)) where
  mutual
    unfolding without_blank replaced ◌⋈◌

    without_replaced : (φ : Items) → replaced put' fill (without_blank φ) ≡ without_blank (replaced put fill φ)
    without_replaced none = refl
    without_replaced (more i φ) =
        item_replaced i (without_blank φ) _ (without_replaced φ) ∙ sym (without_⋈ (replaced_item put fill i) (replaced put fill φ))

    item_replaced : (i : Item) (φ ψ : Items) → replaced put' fill φ ≡ ψ
        → replaced put' fill (without_blank_item i ⋈ φ) ≡ without_blank (replaced_item put fill i) ⋈ ψ
    item_replaced text φ ψ q = ap (more text) q
    item_replaced blank φ ψ q = q
    item_replaced (gap g) φ ψ q = ap₂ ◌⋈◌ (same g) q
    item_replaced (element e mark δ χ) φ ψ q = ap₂ (λ (χ' ψ' : Items). more (element e mark (filled fill δ) χ') ψ') (without_replaced χ) q

chosen : (b : Bool) (φ ψ : Items) → cond b (without_blank φ) (without_blank ψ) ≡ without_blank (cond b φ ψ)
chosen true φ ψ = refl
chosen false φ ψ = refl

without_plugged : (g : ℕ) (new φ : Items) → plugged g (without_blank new) (without_blank φ) ≡ without_blank (plugged g new φ)
unfolding plugged without_blank
without_plugged g new φ = without_replaced _ _ stay_open (λ k. chosen (eqb k g) new (stay k)) φ

without_plugged_string : (h s : ℕ) (φ : Items) → plugged_string h s (without_blank φ) ≡ without_blank (plugged_string h s φ)
unfolding plugged_string without_blank
without_plugged_string h s φ = without_replaced stay stay _ (λ g. refl) φ

without_closed : (φ : Items) → closed (without_blank φ) ≡ without_blank (closed φ)
unfolding closed without_blank
without_closed φ = without_replaced (λ g. none) (λ g. none) _ (λ g. refl) φ

-- Over the templates φs here, and over those without blank text there.
module _ (φs : List Items) where
  abbrev there : List Items
  there = map without_blank φs

  -- A statement on values that there are those here, without blank text.
  module _ (X X' : ℕ → Items) (same : (x : ℕ) → X' x ≡ without_blank (X x)) where
    updated : (x : ℕ) (new new' : Items) → new' ≡ without_blank new → (k : ℕ) → update x new' X' k ≡ without_blank (update x new X k)
    updated x new new' e k = ap₂ (cond (eqb k x)) e (same k) ∙ chosen (eqb k x) new (X k)

    act_templates_lem : (a : Act) (Y : ℕ → ℕ) (k : ℕ) → act_templates there a X' Y k ≡ without_blank (act_templates φs a X Y k)
    act_templates_lem (copy_template x x') Y = updated x _ _ (same x')
    act_templates_lem (set_template x t) Y = updated x _ _ (without_at φs t)
    act_templates_lem (copy_string y y') Y = same
    act_templates_lem (set_string y s) Y = same
    act_templates_lem (any_string y) Y = same
    act_templates_lem (plug x x' g x'') Y = updated x _ _ (ap₂ (plugged g) (same x'') (same x') ∙ without_plugged g (X x'') (X x'))
    act_templates_lem (plug_string x x' h y) Y = updated x _ _ (ap (plugged_string h (Y y)) (same x') ∙ without_plugged_string h (Y y) (X x'))
    act_templates_lem (show x) Y = same
    act_templates_lem (show_framed x t g) Y = same

    act_pages_lem : (a : Act) → act_pages there a X' ≡ map without_blank (act_pages φs a X)
    act_pages_lem (copy_template x x') = refl
    act_pages_lem (set_template x t) = refl
    act_pages_lem (copy_string y y') = refl
    act_pages_lem (set_string y s) = refl
    act_pages_lem (any_string y) = refl
    act_pages_lem (plug x x' g x'') = refl
    act_pages_lem (plug_string x x' h y) = refl
    act_pages_lem (show x) = ap (λ (φ : Items). φ ∷ []) (ap closed (same x) ∙ without_closed (X x))
    act_pages_lem (show_framed x t g) =
        ap (λ (φ : Items). closed φ ∷ []) (ap₂ (plugged g) (same x) (without_at φs t) ∙ without_plugged g (X x) (template_at φs t))
        ∙ ap (λ (φ : Items). φ ∷ []) (without_closed (plugged g (X x) (template_at φs t)))

  -- A state there is the one here, but for blank text.
  record Without (σ σ' : State) : Type 0 where
    point : σ'.point ≡ σ.point
    template : (x : ℕ) → σ'.template x ≡ without_blank (σ.template x)
    string : σ'.string ≡ σ.string
    pages : σ'.pages ≡ map without_blank σ.pages

  after_without : (t : Statement) (c : Choice) {σ σ' : State} → Without σ σ' → Without (after φs t c σ) (after there t c σ')
  after_without (step a p q) c {σ} {σ'} w =
      let X = σ.template in
      let X' = σ'.template in
      record {
        point = refl;
        template = λ x. ap (λ (Y : ℕ → ℕ). act_templates there a X' Y x) w.string ∙ act_templates_lem X X' w.template a σ.string x;
        string = ap (act_strings a c.string) w.string;
        pages = ap₂ ◌++◌ w.pages (act_pages_lem X X' w.template a) ∙ sym (map-append without_blank σ.pages (act_pages φs a X));
      }
  after_without stop c w = w

  module _ (program : List Statement) where
    run_without : (cs : List Choice) {σ σ' : State} → Without σ σ' → Without (run_from φs program σ cs) (run_from there program σ' cs)
    unfolding run_from
    run_without [] w = w
    run_without (c ∷ cs) {σ} {σ'} w =
        let t = statement_at program σ.point in
        run_without cs (subst (λ (p : ℕ). Without (after φs t c σ) (after there (statement_at program p) c σ')) (sym w.point) (after_without t c w))

    pub shown_without : (cs : List Choice) → shown there program cs ≡ map without_blank (shown φs program cs)
    unfolding shown without_blank
    shown_without cs = (run_without cs (record { point = refl; template = λ x. refl; string = refl; pages = refl })).pages
