pub mod HookRows
pub mod GroupRows
