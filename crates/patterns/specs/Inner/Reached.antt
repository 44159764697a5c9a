-- Where an element stands in some whole page (documents 01 and 02, verdicts 12, 14 and 15): its template is reached from a root, from template to
-- template through gaps, and pages come of every template on the way, the last one too. The tests find the templates reached in
-- rounds, and the contents that can stand in the pages of each template.
use Rattle.std.specs.Prelude.{ℕ, ◌≡◌, List, Bool, true, false, ◌&&◌, ◌||◌}
use Rattle.pages.specs.Items.{Attribute, Item, text, blank, gap, element, Items, none, more, gap_in}
use Rattle.programs.specs.Program.{template_at}
use Rattle.summaries.specs.Proposal.{root, edge}
use Rattle.summaries.specs.Summaries.{Summary}
use Rattle.summaries.specs.Languages.{AttributesDerive, Derives}
use Rattle.patterns.specs.Inner.Rounds.{Set, Sets, only, any_below, any_template, iterate}

module _ (φs : List Items) (G : Summary) where
  -- Some page comes of template n.
  abbrev pub Yields : ℕ → Type 0
  Yields n = (page : Items) × Derives φs G n (template_at φs n) page

  pub data Reached : ℕ → Type 0 where
    from_root : {r : ℕ} → G (root r) ≡ true → Yields r → Reached r
    through_gap : {n g m : ℕ} → Reached n → gap_in (template_at φs n) g ≡ true → G (edge n g m) ≡ true → Yields m → Reached m

  -- An element of template n, with its gaps filled or closed in some way, has attributes and contents as Q says.
  abbrev pub CanBe : ℕ → List Attribute → Items → (List Attribute → Items → Type 0) → Type 0
  CanBe n δ φ Q = (δ' : List Attribute) × (φ' : Items) × AttributesDerive φs G n δ δ' × Derives φs G n φ φ' × Q δ' φ'

-- Some gap of items of template n has an edge to template m.
unfoldable mutual
  pub leads_to : Summary → ℕ → ℕ → Items → Bool
  leads_to G n m none = false
  leads_to G n m (more i φ) = item_leads_to G n m i || leads_to G n m φ

  pub item_leads_to : Summary → ℕ → ℕ → Item → Bool
  item_leads_to G n m text = false
  item_leads_to G n m blank = false
  item_leads_to G n m (gap g) = G (edge n g m)
  item_leads_to G n m (element e mark δ φ) = leads_to G n m φ

-- The contents that can stand among the outer items of what comes of items of template n, if a page comes of them, from those of the
-- templates.
unfoldable mutual
  unfolding any_below

  pub contents_of : List Items → Summary → Sets → ℕ → Items → Set
  contents_of φs G C n none = λ c. false
  contents_of φs G C n (more i φ) = λ c. item_contents φs G C n i c || contents_of φs G C n φ c

  pub item_contents : List Items → Summary → Sets → ℕ → Item → Set
  item_contents φs G C n text = only 0
  item_contents φs G C n blank = λ c. false
  item_contents φs G C n (gap g) = λ c. any_template φs (λ m. G (edge n g m) && C m c)
  item_contents φs G C n (element e mark δ φ) = only e

-- In rounds, where Y tells the templates of which pages come.
module _ (φs : List Items) (G : Summary) (Y : Set) where
  unfoldable pub reach_round : Set → Set
  unfolding any_below leads_to
  reach_round S n = Y n && (G (root n) || any_template φs (λ m. S m && leads_to G m n (template_at φs m)))

  unfoldable pub reach_rounds : ℕ → Set
  unfolding reach_round iterate
  reach_rounds t = iterate reach_round (λ n. false) t

  unfoldable pub content_round : Sets → Sets
  unfolding contents_of
  content_round C n = λ c. Y n && contents_of φs G C n (template_at φs n) c

  unfoldable pub content_rounds : ℕ → Sets
  unfolding content_round iterate
  content_rounds t = iterate content_round (λ n c. false) t
