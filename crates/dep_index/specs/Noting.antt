-- How the readers of a fact are found: each fact's mentions are noted in turn.
use Rattle.std.specs.Prelude.{ℕ, ◌-◌, ◌&&◌, Bool, nat_eq, if◌then◌else◌, List, [], ◌∷◌, ◌++◌, fold, length, Option, Some, None, slice_get, slice_set}
use Rattle.dict_source.specs.Dictionary.{Dictionary as Tree}
use Rattle.dict_source.specs.declared.mentions.Mention.{Mention}
use Rattle.dict_meaning.specs.Feeds.{is_of, mentions_of}
use Rattle.dep_index.specs.declared.readers_of.ReaderOf.{ReaderOf}

abbrev pub newest : List ReaderOf → Option ReaderOf
newest rs = slice_get rs (length rs - 1)

abbrev pub noted_after : Option ReaderOf → ℕ → List ReaderOf → Bool → List ReaderOf
noted_after None g rs same = rs ++ record { fact = g; same = same } ∷ []
noted_after (Some r) g rs same =
    if nat_eq r.fact g
    then slice_set rs (length rs - 1) (record { fact = g; same = r.same && same })
    else rs ++ record { fact = g; same = same } ∷ []

-- the readers with one more mention by the fact g, which is the newest or none of them
abbrev pub noted : ℕ → List ReaderOf → Bool → List ReaderOf
noted g rs same = noted_after (newest rs) g rs same

-- the readers of the fact with a mention by g, which may be of another fact
abbrev pub with_mention : ℕ → ℕ → List ReaderOf → Mention → List ReaderOf
with_mention fact g rs m = if is_of fact m then noted g rs m.same else rs

-- with all these mentions by g
abbrev pub with_mentions : ℕ → ℕ → List ReaderOf → List Mention → List ReaderOf
with_mentions fact g = fold (with_mention fact g)

-- with those of all these facts
abbrev pub with_facts : Tree → ℕ → List ReaderOf → List ℕ → List ReaderOf
with_facts d fact = fold (λ rs g. with_mentions fact g rs (mentions_of d g))
