-- Each statement keeps values described: what its transfer function makes of the summaries describes what a run makes of the values.
use Prim.Native.Nat.{ℕ}
use mathlib.Core.Path.{◌≡◌, refl, subst, ◌∙◌}
use mathlib.Core.List.{List, [], ◌∷◌}
use mathlib.Core.Bool.{Bool, true, false, cond, ◌&&◌, ◌||◌}
use mathlib.Core.Option.{some}
use lib.Dec.{eqb}
use borrow.Author.Tests.{eq-eqb}
use Rattle.pages.specs.Items.{Value, string, open_gap, Attribute, Item, text, blank, gap, element, Items, none, more, one, ◌⋈◌, gap_in, gap_in_item, attribute_gap_in, attribute_gap_in_item, open_in, is_open_gap}
use Rattle.programs.specs.Program.{template_at}
use Rattle.programs.specs.Runs.{stay, stay_open, plugged, plugged_string}
use Rattle.programs.proofs.Replacing.{unchanged}
use Rattle.summaries.specs.Proposal.{Claim, root, edge, gap_from, attribute_gap_from}
use Rattle.summaries.specs.Proposal as Proposal
use Rattle.summaries.specs.Summaries.{Summary, Strings, fragment, plug_summary, plug_string_summary}
use Rattle.sets.proofs.Booleans.{or_left, or_right, and_both}
use Rattle.soundness.proofs.Described.{FillsWith, takes, stays, AttributesDescribed, no_attribute, fixed, holds, Describes, nothing, item_then, DescribesItem, text_stays, blank_stays, gap_stays, gap_filled, element_keeps, described_replaced}

-- A value is described where some root's template derives it, with gaps left open.
pub record Holds (S : Summary) (φs : List Items) (v : Items) : Type 0 where
  pub origin : ℕ
  pub is_root : S (root origin) ≡ true
  pub describes : Describes S φs origin (template_at φs origin) v

-- What S holds but for its roots, T holds.
pub record Extends (S T : Summary) : Type 0 where
  pub edges : (n g m : ℕ) → S (edge n g m) ≡ true → T (edge n g m) ≡ true
  pub strings : (n h s : ℕ) → S (Proposal.string n h s) ≡ true → T (Proposal.string n h s) ≡ true
  pub gaps : (n g : ℕ) → S (gap_from g n) ≡ true → T (gap_from g n) ≡ true
  pub attribute_gaps : (n h : ℕ) → S (attribute_gap_from h n) ≡ true → T (attribute_gap_from h n) ≡ true

pub extended : {S T : Summary} {φs : List Items} {n : ℕ} {φ v : Items} → Extends S T → Describes S φs n φ v → Describes T φs n φ v
extended {S} {T} {φs} {n} {φ} {v} x d =
    subst (Describes T φs n φ) (unchanged stay stay_open v (λ g e. refl) (λ h e. refl))
    (described_replaced S T φs stay stay_open x.edges x.strings
    (λ k g e. gap_stays (x.gaps k g e)) (λ k h e. stays (x.attribute_gaps k h e)) d)

pub within_holds : {S T : Summary} {φs : List Items} {v : Items} → ((a : Claim) → S a ≡ true → T a ≡ true) → Holds S φs v → Holds T φs v
within_holds w h = record {
  origin = h.origin;
  is_root = w (root h.origin) h.is_root;
  describes = extended (record {
    edges = λ n g m. w (edge n g m);
    strings = λ n h' s. w (Proposal.string n h' s);
    gaps = λ n g. w (gap_from g n);
    attribute_gaps = λ n h'. w (attribute_gap_from h' n);
  }) h.describes;
}

-- A template is described by its fragment: each gap in it comes from it.
module _ (S : Summary) (φs : List Items) (n : ℕ) where
  attribute_itself : (a : Attribute) {δ : List Attribute} (v : Value) → ((h : ℕ) → is_open_gap v h ≡ true → S (attribute_gap_from h n) ≡ true)
      → AttributesDescribed S n δ δ
      → AttributesDescribed S n (record { name = a.name; value = v } ∷ δ) (record { name = a.name; value = v } ∷ δ)
  attribute_itself a (string s) o d = fixed d
  attribute_itself a (open_gap h) o d = holds (stays (o h (eq-eqb h h refl))) d

  attributes_themselves : (δ : List Attribute) → ((h : ℕ) → open_in δ h ≡ true → S (attribute_gap_from h n) ≡ true) → AttributesDescribed S n δ δ
  unfolding open_in
  attributes_themselves [] o = no_attribute
  attributes_themselves (a ∷ δ) o =
      attribute_itself a a.value (λ h e. o h (or_left (is_open_gap a.value h) (open_in δ h) e))
      (attributes_themselves δ (λ h e. o h (or_right (is_open_gap a.value h) (open_in δ h) e)))

  mutual
    unfolding gap_in attribute_gap_in ◌⋈◌

    itself : (φ : Items) → ((g : ℕ) → gap_in φ g ≡ true → S (gap_from g n) ≡ true)
        → ((h : ℕ) → attribute_gap_in φ h ≡ true → S (attribute_gap_from h n) ≡ true) → Describes S φs n φ φ
    itself none o p = nothing
    itself (more i φ) o p =
        item_then
        (item_itself i (λ g e. o g (or_left (gap_in_item i g) (gap_in φ g) e)) (λ h e. p h (or_left (attribute_gap_in_item i h) (attribute_gap_in φ h) e)))
        (itself φ (λ g e. o g (or_right (gap_in_item i g) (gap_in φ g) e)) (λ h e. p h (or_right (attribute_gap_in_item i h) (attribute_gap_in φ h) e)))
        refl

    item_itself : (i : Item) → ((g : ℕ) → gap_in_item i g ≡ true → S (gap_from g n) ≡ true)
        → ((h : ℕ) → attribute_gap_in_item i h ≡ true → S (attribute_gap_from h n) ≡ true) → DescribesItem S φs n i (one i)
    item_itself text o p = text_stays
    item_itself blank o p = blank_stays
    item_itself (gap g) o p = gap_stays (o g (eq-eqb g g refl))
    item_itself (element e mark δ φ) o p =
        element_keeps
        (attributes_themselves δ (λ h e'. p h (or_left (open_in δ h) (attribute_gap_in φ h) e')))
        (itself φ o (λ h e'. p h (or_right (open_in δ h) (attribute_gap_in φ h) e')))

pub set_template_lem : (φs : List Items) (t : ℕ) → Holds (fragment t (template_at φs t)) φs (template_at φs t)
set_template_lem φs t = record {
  origin = t;
  is_root = eq-eqb t t refl;
  describes = itself (fragment t (template_at φs t)) φs t (template_at φs t)
      (λ g e. and_both (eqb t t) _ (eq-eqb t t refl) e)
      (λ h e. and_both (eqb t t) _ (eq-eqb t t refl) e);
}

-- A plug into gap g.
module _ (g : ℕ) (S T : Summary) where
  abbrev P : Summary
  P = plug_summary g S T

  kept : (k n : ℕ) (b : Bool) → eqb k g ≡ b → S (gap_from k n) ≡ true → b ≡ false → P (gap_from k n) ≡ true
  kept k n b e s f = rw (e ∙ f) (or_left (S (gap_from k n)) (T (gap_from k n)) s)

  gap_from_T : (k n : ℕ) (b : Bool) → eqb k g ≡ b → T (gap_from k n) ≡ true → P (gap_from k n) ≡ true
  gap_from_T k n true e t = rw e t
  gap_from_T k n false e t = rw e (or_right (S (gap_from k n)) (T (gap_from k n)) t)

  inserted : Extends T P
  inserted = record {
    edges = λ n k m t. or_left (S (edge n k m) || T (edge n k m)) _ (or_right (S (edge n k m)) (T (edge n k m)) t);
    strings = λ n h s t. or_right (S (Proposal.string n h s)) (T (Proposal.string n h s)) t;
    gaps = λ n k t. gap_from_T k n (eqb k g) refl t;
    attribute_gaps = λ n h t. or_right (S (attribute_gap_from h n)) (T (attribute_gap_from h n)) t;
  }

  module _ (φs : List Items) (new : Items) (origin : ℕ) (is_root : T (root origin) ≡ true) (d : Describes T φs origin (template_at φs origin) new) where
    put : (n k : ℕ) (b : Bool) → eqb k g ≡ b → S (gap_from k n) ≡ true → DescribesItem P φs n (gap k) (cond b new (stay k))
    put n k true e s = gap_filled origin (or_right (S (edge n k origin) || T (edge n k origin)) _
        (and_both (eqb k g && S (gap_from k n)) (T (root origin)) (and_both (eqb k g) (S (gap_from k n)) e s) is_root))
        (extended inserted d)
    put n k false e s = gap_stays (kept k n false e s refl)

pub plug_holds : (g : ℕ) {S T : Summary} {φs : List Items} {v new : Items} → Holds S φs v → Holds T φs new → Holds (plug_summary g S T) φs (plugged g new v)
unfolding plugged
plug_holds g {S} {T} {φs} {v} {new} a b = record {
  origin = a.origin;
  is_root = a.is_root;
  describes = described_replaced S (plug_summary g S T) φs (λ k. cond (eqb k g) new (stay k)) stay_open
      (λ n k m s. or_left (S (edge n k m) || T (edge n k m)) _ (or_left (S (edge n k m)) (T (edge n k m)) s))
      (λ n h s e. or_left (S (Proposal.string n h s)) (T (Proposal.string n h s)) e)
      (λ n k s. put g S T φs new b.origin b.is_root b.describes n k (eqb k g) refl s)
      (λ n h e. stays (or_left (S (attribute_gap_from h n)) (T (attribute_gap_from h n)) e))
      a.describes;
}

-- A plug into attribute gap h.
plugged_value : (h : ℕ) (S : Summary) (Y : Strings) (s : ℕ) → Y s ≡ true → (n k : ℕ) (b : Bool) → eqb k h ≡ b → S (attribute_gap_from k n) ≡ true
    → FillsWith (plug_string_summary h S Y) n k (cond b (some (string s)) (stay_open k))
plugged_value h S Y s y n k true e a =
    takes s (or_right (S (Proposal.string n k s)) _ (and_both (eqb k h && S (attribute_gap_from k n)) (Y s) (and_both (eqb k h) (S (attribute_gap_from k n)) e a) y))
plugged_value h S Y s y n k false e a = stays (rw e a)

pub plug_string_holds : (h : ℕ) {S : Summary} {φs : List Items} {v : Items} (Y : Strings) (s : ℕ) → Y s ≡ true → Holds S φs v
    → Holds (plug_string_summary h S Y) φs (plugged_string h s v)
unfolding plugged_string
plug_string_holds h {S} {φs} {v} Y s y a = record {
  origin = a.origin;
  is_root = a.is_root;
  describes = described_replaced S (plug_string_summary h S Y) φs stay (λ k. cond (eqb k h) (some (string s)) (stay_open k))
      (λ n k m e. e)
      (λ n k t e. or_left (S (Proposal.string n k t)) _ e)
      (λ n k e. gap_stays e)
      (λ n k e. plugged_value h S Y s y n k (eqb k h) refl e)
      a.describes;
}
