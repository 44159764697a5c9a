-- What the code that reads items promises, in terms of the definitions that read them: at every fuel that is enough, the same end or
-- the same refusal.
use Rattle.std.specs.Prelude.{ℕ, ◌+◌, ◌-◌, ◌<◌, ◌≤◌, ◌≡◌, List, Bool, length, get_or, Result}
use Rattle.commands.specs.declared.Position.{Position}
use Rattle.commands.specs.declared.ReadError.{ReadError}
use Rattle.commands.specs.Reading.{whole}
use Rattle.commands.specs.Inner.Parts.{Agrees, AgreesWith, Enough}
use Rattle.pages.specs.declared.Kind.{Kind}
use Rattle.pages.specs.declared.Kind.TheVariants.{Template}
use Rattle.pages.specs.declared.Templates.{Templates}
use Rattle.pages.specs.Items.{Items, none}
use Rattle.pages.specs.ItemReading.{attributes, items, item, templates}

-- The attributes from an offset on, after those named before.
abbrev pub AttributesRead : Kind → List ℕ → List ℕ → ℕ → Result Position ReadError → Type 0
AttributesRead k s before at r = (f : ℕ) → Enough s at f → Agrees (attributes f k s before at) r

abbrev pub ItemsRead : Kind → (ℕ → Bool) → List ℕ → ℕ → ℕ → Result Position ReadError → Type 0
ItemsRead k ruled s depth at r = (f : ℕ) → Enough s at f → Agrees (items f k ruled s depth at) r

-- An item takes one step less than a list of items that begins with it.
abbrev pub EnoughForItem : List ℕ → ℕ → ℕ → Type 0
EnoughForItem s at f = (length s - at) + (length s - at) < f

abbrev pub ItemRead : Kind → (ℕ → Bool) → List ℕ → ℕ → ℕ → Result Position ReadError → Type 0
ItemRead k ruled s depth at r = (f : ℕ) → EnoughForItem s at f → Agrees (item f k ruled s depth at) r

-- A template's items stand at an offset.
abbrev pub StandsAt : (ℕ → Bool) → List ℕ → ℕ → Items → Type 0
StandsAt ruled s at φ = (f : ℕ) → Enough s at f → (end : ℕ) × (items f Template ruled s 0 at ≡ whole φ end)

-- Where the items of each template stand. Templates are numbered from 1: template t is at place t - 1 of the list.
pub record Located (ruled : ℕ → Bool) (s : List ℕ) (φs : List Items) (count : ℕ) (starts : List ℕ) : Type 0 where
  pub counted : count ≡ length φs
  pub located : (t : ℕ) → 1 ≤ t → t ≤ count → StandsAt ruled s (get_or starts t 0) (get_or φs (t - 1) none)

abbrev pub TemplatesFrom : (ℕ → Bool) → List ℕ → ℕ → Result (Templates × Position) ReadError → Type 0
TemplatesFrom ruled s at r = (f : ℕ) → Enough s at f → AgreesWith (λ φs found. Located ruled s φs found.count found.starts) (templates f ruled s 0 at) r
