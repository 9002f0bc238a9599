-- What is answered of chains under the bytes of keys. Z is the scheme.
use Rattle.std.specs.Prelude.{ℕ, ◌*◌, ◌==◌, ◌&&◌, List, length, if◌then◌else◌}
use Rattle.std.specs.Prelude.{Option, Some, Result, Ok, Err}
use Rattle.slh_core.specs.Parameters.{Scheme}
use Rattle.slh_chain.specs.Links.{delegate_refusal}
use Rattle.slh_chain.specs.Parts.{LinkParts, links_in}
use Rattle.slh_chain.specs.Walks.{Ended, walk_answer}
use Rattle.slh_chain.specs.declared.error.ChainError.{ChainError}
use Rattle.slh_chain.specs.declared.error.ChainError.TheVariants.{Form}
use Rattle.slh_chain.specs.declared.error.LinkError.{LinkError}
use Rattle.slh_chain.specs.declared.error.LinkError.TheVariants.{Memory as NoMemory}
use Rattle.slh_bytes.specs.declared.chains.LinkText.{LinkText}
use Rattle.slh_bytes.specs.declared.chains.WalkError.{WalkError}
use Rattle.slh_bytes.specs.declared.chains.WalkError.TheVariants.{Link}

-- the key at the end of a walk, or the fault of a link
abbrev pub key_of : Result Ended ChainError → Result (List ℕ) WalkError
key_of (Ok end) = Ok end.key
key_of (Err fault) = Err (Link fault)

-- the key at the end of a chain; under bytes that are no key of the set no link is good
abbrev pub end_key : Scheme → List ℕ → List ℕ → Result (List ℕ) WalkError
end_key Z root chain =
    if length root == 2 * Z.n then key_of (walk_answer Z root chain) else Err (Link (Form 0))

-- what a link says that is told with its key as bytes
abbrev pub parts_of : LinkText → LinkParts
parts_of link =
    record { depth = link.depth; name = link.name.now; subject = link.subject.items }

-- the links of a chain that was walked to its end
abbrev pub links_to : Scheme → List ℕ → Result Ended ChainError → Result (List LinkParts) WalkError
links_to Z chain (Ok end) = Ok (links_in Z end.links chain)
links_to Z chain (Err fault) = Err (Link fault)

abbrev pub chain_links : Scheme → List ℕ → List ℕ → Result (List LinkParts) WalkError
chain_links Z root chain =
    if length root == 2 * Z.n then links_to Z chain (walk_answer Z root chain)
    else Err (Link (Form 0))

-- why no link is made by the bytes of two keys, which callers have read as keys of the set
abbrev pub link_refusal : Scheme → List ℕ → List ℕ → ℕ → List ℕ → Option (List ℕ)
    → Option LinkError
link_refusal Z key name depth subject opt_rand =
    if length key == 4 * Z.n && length subject == 2 * Z.n
    then delegate_refusal Z name depth opt_rand else Some NoMemory
