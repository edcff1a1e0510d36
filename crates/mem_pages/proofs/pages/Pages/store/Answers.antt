use Rattle.mem_pages.proofs.pages.Pages.store.Goals as goal
use Rattle.mem_pages.proofs.StoredThere.{stores_after}

pub returns-clause-stores : goal.returns-clause-stores
returns-clause-stores c =
    let a = c.args in
    let r = c.store_each-2.result in
    let p = c.store_part.new.self in
    let q = c.store_opened.new.self in
    let s = c.store_each-2.new.self in
    stores_after a.at a.size a.word r a.self.now p s (c.store_part.ensures.same c.if-store_part.false) c.store_part.ensures.keeps
    (stores_after a.at a.size a.word r p q s (c.store_opened.ensures.same c.if-store_opened.false) c.store_opened.ensures.keeps c.store_each-2.ensures.stores)
