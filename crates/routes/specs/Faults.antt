-- What may be wrong with a line of the table or of the input.
use Rattle.std.specs.Prelude.{◌≡◌, ◌≢◌, ◌⊎◌, ℕ, List, [], ◌++◌, codes}
use Rattle.std.specs.Fmt.{decimal}
use Rattle.std.specs.Net.Grammar.{IsIpText}
use Rattle.std.specs.declared.net.ip_addr.IpAddr.{IpAddr}
use Rattle.program_lines.specs.Lines.{HasNo, IsCutAt}
use Rattle.art_routes.specs.Texts.{IsTextFault, text_fault_text}
use Rattle.routes.specs.declared.fault.Fault.{Fault}
use Rattle.routes.specs.declared.fault.Fault.TheVariants.{BadAddress, NoNextHop, BadNetwork, SameNetwork}

-- what a failure's line says of the fault
abbrev pub route_fault_text : Fault → List ℕ
route_fault_text BadAddress = codes "bad address"
route_fault_text NoNextHop = codes "no next hop"
route_fault_text (BadNetwork fault) = text_fault_text fault
route_fault_text (SameNetwork number) = codes "same network as line " ++ decimal number

-- what is wrong with a line that is no route: no next hop comes after a space, or what comes before is no network
abbrev pub IsRouteFault : List ℕ → Fault → Type 0
IsRouteFault line NoNextHop = HasNo 32 line ⊎ ((text : List ℕ) × IsCutAt 32 line text [])
IsRouteFault line (BadNetwork fault) = (text next_hop : List ℕ) × IsCutAt 32 line text next_hop × (next_hop ≢ []) × IsTextFault text fault
IsRouteFault line _ = ⊥

-- what is wrong with a line that is no address
abbrev pub IsRouteQueryFault : List ℕ → Fault → Type 0
IsRouteQueryFault line fault = (fault ≡ BadAddress) × ((address : IpAddr) → ¬ IsIpText line address)
