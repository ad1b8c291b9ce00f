-- The sites of the acts on a port, as the code reads them off a body.
use Rattle.std.specs.Prelude.{ℕ, ◌<◌, ◌==◌, if◌then◌else◌, List, [], ◌∷◌, ◌++◌}
use Rattle.core_term.specs.declared.term.CoreTerm.{CoreTerm, One', Then', Both'}
use Rattle.core_term.specs.declared.term.CoreKind.{CoreKind, Send, Recv, If', Block', Held-CoreKind-If-2, None', Some'}
use Rattle.core_term.specs.Lists.{Has}
use Rattle.core_term.specs.Term.{Term}
use Rattle.core_term.specs.Numbering.{size}

-- each is the site of an act of a body
abbrev pub AreSites : Term → List ℕ → Type 0
AreSites body sites = (site : ℕ) → Has sites site → site < size body

-- the site of an act on the port `named`, where that is the port
abbrev pub site_on : (port named site : ℕ) → List ℕ
site_on port named site = if named == port then site ∷ [] else []

abbrev mutual
  pub port_sites : ℕ → CoreTerm → List ℕ
  port_sites port (One' s p k) = kind_sites port s k
  port_sites port (Then' s p k q t) = kind_sites port s k ++ port_sites port t
  port_sites port (Both' s p k q t) = kind_sites port s k ++ port_sites port t

  pub kind_sites : ℕ → ℕ → CoreKind → List ℕ
  kind_sites port s (Send named e) = site_on port named s
  kind_sites port s (Recv named) = site_on port named s
  kind_sites port s (If' e p t u w) = port_sites port t ++ else_sites port u
  kind_sites port s (Block' p t) = port_sites port t
  kind_sites port s k = []

  pub else_sites : ℕ → Held-CoreKind-If-2 → List ℕ
  else_sites port None' = []
  else_sites port (Some' p t) = port_sites port t
