-- How a session begins over a dictionary that a host brings, by the answers that it begins from.
use Rattle.std.specs.Prelude.{◌≡◌, ℕ, List, []}
use Rattle.answers.specs.Answered.{start}
use Rattle.dictionary.specs.declared.fault.DictFault.TheVariants.{NoMemory}
use Rattle.graph_session.specs.Rules.{Rules, tree_of}
use Rattle.saved_text.specs.CarriedText.{IsCarriedText}
use Rattle.save_file.specs.Loading.{IsSavedText}
use Rattle.fact_graph_c.specs.Openings.{Accepts, CarriesOver, IsBegun, LoadsOver, NotCarried, NotLoaded, NotOpened, RefusesOver, ResumesOver}
use Rattle.fact_graph_c.specs.declared.engine.Engine.{Engine}
use Rattle.fact_graph_c.specs.declared.fault.NotBegun.{NotBegun}
use Rattle.fact_graph_c.specs.declared.fault.NotBegun.TheVariants.{Dictionary}
use Rattle.fact_graph_c.specs.declared.start.Start.{Start}
use Rattle.fact_graph_c.specs.declared.start.Start.TheVariants.{Fresh, Loaded, Carried, Resumed}

-- over these rules, of a saved text
abbrev pub StartsOver : Start → Rules → List ℕ → Engine → Type 0
StartsOver Fresh r text e = IsBegun r start [] e
StartsOver Loaded r text e = LoadsOver r text e
StartsOver Carried r text e = CarriesOver r text e
StartsOver Resumed r text e = ResumesOver r text e

-- over the dictionary that the bytes spell
abbrev pub Starts : Start → List ℕ → List ℕ → Engine → Type 0
Starts how bytes text e = (r : Rules) × Accepts bytes r × StartsOver how r text e

-- ---- or why not

abbrev pub NotStartedOver : Start → Rules → List ℕ → NotBegun → Type 0
NotStartedOver Fresh r text why = why ≡ Dictionary NoMemory
NotStartedOver Loaded r text why = RefusesOver (IsSavedText (tree_of r)) text why
NotStartedOver Carried r text why = RefusesOver IsCarriedText text why
NotStartedOver Resumed r text why = RefusesOver IsCarriedText text why

abbrev pub NotStarted : Start → List ℕ → List ℕ → NotBegun → Type 0
NotStarted Fresh bytes text why = NotOpened bytes why
NotStarted Loaded bytes text why = NotLoaded bytes text why
NotStarted Carried bytes text why = NotCarried bytes text why
NotStarted Resumed bytes text why = NotCarried bytes text why
